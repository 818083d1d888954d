-- A picture, element by element.
use Rattle.std.proofs.Common.{◌≡◌, ℕ, List, [], ◌∷◌, ◌++◌, refl, sym, ap, ◌∙◌, append_assoc, append-nil}
use Rattle.std.specs.Prelude.{Result, Ok, Err, is_ok, if◌then◌else◌}
use Rattle.perc_drawing.specs.Element.{Element, IsBegun, IsPicture, element_text, elements_text, end_text, start_text}

-- what two lists become, one after the other
elements_text-append : (xs ys : List Element) → elements_text (xs ++ ys) ≡ elements_text xs ++ elements_text ys
elements_text-append [] ys = refl
elements_text-append (x ∷ xs) ys =
    ap (λ l. element_text x ++ l) (elements_text-append xs ys)
    ∙ sym (append_assoc (element_text x) (elements_text xs) (elements_text ys))

-- a start alone
pub begun_here : (old octets : List ℕ) (width height : ℕ) → old ≡ [] → octets ≡ old ++ start_text width height → IsBegun octets
begun_here old octets width height nothing is = record {
  width = width;
  height = height;
  elements = [];
  is = is ∙ ap (λ l. l ++ start_text width height) nothing ∙ sym (append-nil (start_text width height));
}

-- one element more
begun_on : (old one new : List ℕ) (e : Element) → IsBegun old → one ≡ element_text e → new ≡ old ++ one → IsBegun new
begun_on old one new e b o n = record {
  width = b.width;
  height = b.height;
  elements = b.elements ++ e ∷ [];
  is = n ∙ ap (λ l. l ++ one) b.is
      ∙ append_assoc (start_text b.width b.height) (elements_text b.elements) one
      ∙ ap (λ l. start_text b.width b.height ++ (elements_text b.elements ++ l)) (o ∙ sym (append-nil (element_text e)))
      ∙ ap (λ l. start_text b.width b.height ++ l) (sym (elements_text-append b.elements (e ∷ [])));
}

-- one element more, or none where there was no memory
pub begun_either : {T E : Type 0} (result : Result T E) (old before one new : List ℕ) (e : Element)
    → IsBegun old → before ≡ [] → one ≡ before ++ element_text e → new ≡ (if is_ok result then old ++ one else old) → IsBegun new
begun_either (Ok _) old before one new e b nothing o n = begun_on old one new e b (o ∙ ap (λ l. l ++ element_text e) nothing) n
begun_either (Err _) old before one new e b nothing o n =
    record { width = b.width; height = b.height; elements = b.elements; is = n ∙ b.is }

pub finished : (old new : List ℕ) → IsBegun old → new ≡ old ++ end_text → IsPicture new
finished old new b n = record {
  width = b.width;
  height = b.height;
  elements = b.elements;
  is = n ∙ ap (λ l. l ++ end_text) b.is;
}
