-- Elements, and pictures that are made of them. Names come from fixed lists, and all other text is escaped, so a picture is
-- well formed (XML 1.0 section 2.1).
use Rattle.std.specs.Prelude.{◌≡◌, ℕ, List, ◌++◌, codes}
use Rattle.std.specs.List.{flat_map}
use Rattle.std.specs.Fmt.{decimal}
use Rattle.perc_drawing.specs.declared.markup.Word.{Word}
use Rattle.perc_drawing.specs.declared.element.Tag.{Tag}
use Rattle.perc_drawing.specs.declared.element.Tag.TheVariants as tag
use Rattle.perc_drawing.specs.declared.element.Key.{Key}
use Rattle.perc_drawing.specs.declared.element.Key.TheVariants as key
use Rattle.perc_drawing.specs.declared.element.Attribute.{Attribute}
use Rattle.perc_drawing.specs.Markup.{word_text, words_text}

abbrev pub tag_text : Tag → List ℕ
tag_text tag.Line = codes "line"
tag_text tag.Rect = codes "rect"
tag_text tag.Style = codes "style"
tag_text tag.Text = codes "text"
tag_text tag.Title = codes "title"

abbrev pub key_text : Key → List ℕ
key_text key.Anchor = codes "text-anchor"
key_text key.Class = codes "class"
key_text key.Dashes = codes "stroke-dasharray"
key_text key.Height = codes "height"
key_text key.Width = codes "width"
key_text key.X = codes "x"
key_text key.X1 = codes "x1"
key_text key.X2 = codes "x2"
key_text key.Y = codes "y"
key_text key.Y1 = codes "y1"
key_text key.Y2 = codes "y2"

-- ` NAME="VALUE"`
abbrev pub attribute_text : Attribute → List ℕ
attribute_text a = (codes " " ++ key_text a.0 ++ codes "=\"") ++ word_text a.1 ++ codes "\""

abbrev pub attributes_text : List Attribute → List ℕ
attributes_text attributes = flat_map attribute_text attributes

-- an element around a text
pub record Element : Type 0 where
  pub tag : Tag
  pub attributes : List Attribute
  pub text : List Word

-- `<NAME ATTRIBUTES>TEXT</NAME>`, and a line feed
abbrev pub element_text : Element → List ℕ
element_text e =
    (codes "<" ++ tag_text e.tag ++ attributes_text e.attributes ++ codes ">") ++ words_text e.text
    ++ (codes "</" ++ tag_text e.tag ++ codes ">\n")

abbrev pub elements_text : List Element → List ℕ
elements_text elements = flat_map element_text elements

abbrev pub size_text : ℕ → ℕ → List ℕ
size_text width height =
    codes "<svg xmlns=\"http://www.w3.org/2000/svg\" width=\"" ++ decimal width ++ codes "\" height=\"" ++ decimal height ++ codes "\""

abbrev pub view_box_text : ℕ → ℕ → List ℕ
view_box_text width height = codes " viewBox=\"0 0 " ++ decimal width ++ codes " " ++ decimal height ++ codes "\">\n"

-- the start of a picture of this width and height
abbrev pub start_text : ℕ → ℕ → List ℕ
start_text width height = size_text width height ++ view_box_text width height

abbrev pub end_text : List ℕ
end_text = codes "</svg>\n"

-- The octets are the start of a picture, and elements, each of them whole.
pub record IsBegun (octets : List ℕ) : Type 0 where
  pub width : ℕ
  pub height : ℕ
  pub elements : List Element
  pub is : octets ≡ start_text width height ++ elements_text elements

-- The octets are a picture: its start, elements, and its end.
pub record IsPicture (octets : List ℕ) : Type 0 where
  pub width : ℕ
  pub height : ℕ
  pub elements : List Element
  pub is : octets ≡ start_text width height ++ elements_text elements ++ end_text
