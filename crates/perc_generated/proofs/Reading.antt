-- A generated script is read as its lines.
use Rattle.std.proofs.Common.{◌≡◌, ℕ, zero, suc, ◌+◌, ◌*◌, ◌^◌, ◌<◌, ◌≤◌, Bool, true, false, cond, List, [], ◌∷◌, ◌++◌, length, map, refl, sym, ap, subst, ◌∙◌, append_assoc, arith, ◌↔◌}
use Rattle.std.specs.Prelude.{◌%◌, ◌==◌, ◌&&◌, nat_le, nat_lt, replicate, codes, Option, Some, None, IfSome, ◌||◌}
use Rattle.std.specs.Fmt.{decimal}
use Rattle.std.specs.List.{AllByRecursion, flat_map, join_with_byte, list_all, range_with_len}
use Rattle.std.proofs.lemmas.Bool.{and_parts, leb-true, lt-ltb, ne_eqb}
use Rattle.hex.specs.Hex.{encode_lower}
use Rattle.byteorder.specs.Endian.{big_bytes}
use Rattle.perc_base.specs.declared.profile.Profile.TheVariants.{Aes128}
use Rattle.perc_base.specs.Lines.{lines_of, longest, onto_first}
use Rattle.perc_rtp.specs.Media.{is_payload_type}
use Rattle.perc_word.specs.Word.{AreItems, AreSomeOctets, Also, IsName, are_octets, marker_text, payload_text, ssrc_text}
use Rattle.perc_script_line.specs.Script.{Changes, Conference, Deliver, Ekt, Forward, IsScript, Join, Rekey, Script, Send, Spells, changes_words, script_of, script_text, script_words}
use Rattle.perc_generator.specs.Generator.{Roles, changes_of, forward_of, join_of, line_text, lines_text, made_lines, made_script, no_options, opening, rekey_of, repeat_of, roles_of, round_lines, send_of}
use Rattle.perc_generated.proofs.Short.{IsShort, count_repeated, is_ink, octets_of_number, octets_repeated, short_append, short_decimal, short_hex, short_joined, shorter}

-- A line is short, its fields are in their bounds, and its text spells it.
pub record IsLine (line : Script) : Type 0 where
  pub short : IsShort longest (script_text line)
  pub said : IsScript line
  pub spells : Spells (script_text line) line

-- ---- lines of a text

line_free : (x : ℕ) → is_ink x ≡ true → (x == 10) ≡ false
line_free x ink = let more = leb-true 32 x ink in ne_eqb x 10 (λ same. omega arith)

one_line : (line rest : List ℕ) → list_all is_ink line ≡ true → lines_of (line ++ 10 ∷ rest) ≡ line ∷ lines_of rest
one_line [] rest ink = refl
one_line (x ∷ line) rest ink =
    let parts = and_parts (is_ink x) (list_all is_ink line) ink in
    ap (λ (b : Bool). cond b ([] ∷ lines_of (line ++ 10 ∷ rest)) (onto_first x (lines_of (line ++ 10 ∷ rest)))) (line_free x parts.0)
    ∙ ap (onto_first x) (one_line line rest parts.1)

pub lines_split : (lines : List Script) → AllByRecursion IsLine lines → lines_of (lines_text lines) ≡ map script_text lines
lines_split [] all = refl
lines_split (line ∷ lines) all =
    ap lines_of (append_assoc (script_text line) (10 ∷ []) (lines_text lines))
    ∙ one_line (script_text line) (lines_text lines) all.0.short.ink
    ∙ ap (λ (rest : List (List ℕ)). script_text line ∷ rest) (lines_split lines all.1)

-- ---- a round

record IsRole (name : List ℕ) : Type 0 where
  is_name : IsName name
  short : IsShort 100 name

record AreRoles (roles : Roles) : Type 0 where
  speaker : IsRole roles.speaker
  first : IsRole roles.first
  second : IsRole roles.second

roles_by : (P : Roles → Type 0) (a b : Bool) (x y z : Roles) → P x → P y → P z → P (cond a x (cond b y z))
roles_by P true b x y z at_x at_y at_z = at_x
roles_by P false true x y z at_x at_y at_z = at_y
roles_by P false false x y z at_x at_y at_z = at_z

ann : IsRole (codes "Ann")
ann = record { is_name = refl; short = record { size = omega arith; ink = refl } }

bob : IsRole (codes "Bob")
bob = record { is_name = refl; short = record { size = omega arith; ink = refl } }

cat : IsRole (codes "Cat")
cat = record { is_name = refl; short = record { size = omega arith; ink = refl } }

are_roles : (r : ℕ) → AreRoles (roles_of r)
are_roles r =
    roles_by AreRoles (r % 3 == 0) (r % 3 == 1) (record { speaker = codes "Ann"; first = codes "Bob"; second = codes "Cat" })
    (record { speaker = codes "Bob"; first = codes "Ann"; second = codes "Cat" }) (record { speaker = codes "Cat"; first = codes "Ann"; second = codes "Bob" })
    (record { speaker = ann; first = bob; second = cat }) (record { speaker = bob; first = ann; second = cat }) (record { speaker = cat; first = ann; second = bob })

word_of_number : (n : ℕ) → n < 10 ^ 10 → IsShort 100 (decimal n)
word_of_number n few = shorter 10 100 (decimal n) (short_decimal n few) (omega arith)

word_of_octets : (xs : List ℕ) → length xs ≤ 50 → are_octets xs ≡ true → IsShort 100 (encode_lower xs)
word_of_octets xs few octets = short_hex 50 xs few octets

deliver_line : (n : ℕ) (name : List ℕ) → n < 100000 → IsRole name → IsLine (Deliver n name)
deliver_line n name few role = record {
  short =
      shorter (100 + 2 * 101) longest _ (short_joined 100 (codes "deliver") (decimal n ∷ name ∷ []) (record { size = omega arith; ink = refl })
      (word_of_number n (omega arith), (role.short, tt))) (omega arith);
  said = (omega arith, role.is_name);
  spells = refl;
}

word_of_marker : (b : Bool) → IsShort 100 (marker_text b)
word_of_marker true = record { size = omega arith; ink = refl }
word_of_marker false = record { size = omega arith; ink = refl }

word_of_payload : (k x : ℕ) → k < 40 → x < 256 → IsShort 100 (payload_text (replicate k x))
word_of_payload zero x few octet = record { size = omega arith; ink = refl }
word_of_payload (suc k) x few octet =
    let count = count_repeated (suc k) x in
    word_of_octets (replicate (suc k) x) (omega arith) (octets_repeated (suc k) x octet)

low_type : (pt : ℕ) → pt < 64 → is_payload_type pt ≡ true
low_type pt few = ap (λ (b : Bool). b || (nat_le 96 pt && nat_lt pt 128)) (lt-ltb pt 64 few)

send_line : (r : ℕ) → r < 1000 → IsLine (send_of r)
send_line r few =
    let roles = are_roles r in
    let count = count_repeated (r % 40) (r % 256) in
    let pt : r % 64 < 64 = omega arith in
    let octet : r % 256 < 256 = omega arith in
    let size : r % 40 < 40 = omega arith in record {
      short =
          shorter (100 + 5 * 101) longest _
          (short_joined 100 (codes "send") ((roles_of r).speaker ∷ decimal (r % 64) ∷ marker_text (r % 2 == 1) ∷ decimal (160 * r) ∷ payload_text (replicate (r % 40) (r % 256)) ∷ [])
          (record { size = omega arith; ink = refl })
          (roles.speaker.short, (word_of_number (r % 64) (omega arith), (word_of_marker (r % 2 == 1), (word_of_number (160 * r) (omega arith), (word_of_payload (r % 40) (r % 256) size octet, tt)))))) (omega arith);
      said = (
        roles.speaker.is_name,
        record { fits = omega arith; passes = low_type (r % 64) pt },
        omega arith,
        octets_repeated (r % 40) (r % 256) octet,
        record { csrcs = tt; extension = tt; pad = tt },
        grind arith,
      );
      spells = refl;
    }

pt_of : Bool → Option ℕ
pt_of b = cond b (Some 100) None

abbrev forward_by : List ℕ → ℕ → Bool → Script
forward_by name n b = Forward name (n ∷ []) (record { pt = cond b (Some 100) None; shift = Some 7; marker = None; extension = None }) None

option_short : (prefix : List ℕ) (n : ℕ) → IsShort 20 prefix → n < 10 ^ 10 → IsShort 100 (prefix ++ decimal n)
option_short prefix n is few = shorter (20 + 10) 100 (prefix ++ decimal n) (short_append 20 10 prefix (decimal n) is (short_decimal n few)) (omega arith)

forward_line : (name : List ℕ) (n : ℕ) (b : Bool) → n < 100000 → IsRole name → IsLine (forward_by name n b)
forward_line name n true few role = record {
  short =
      shorter (100 + 4 * 101) longest _
      (short_joined 100 (codes "forward") (name ∷ decimal n ∷ (codes "pt=" ++ decimal 100) ∷ (codes "shift=" ++ decimal 7) ∷ []) (record { size = omega arith; ink = refl })
      (role.short, (word_of_number n (omega arith), (option_short (codes "pt=") 100 (record { size = omega arith; ink = refl }) (omega arith), (option_short (codes "shift=") 7 (record { size = omega arith; ink = refl }) (omega arith), tt))))) (omega arith);
  said = (
    role.is_name,
    record { count = refl; each = (omega arith, tt) },
    record { pt = record { fits = omega arith; passes = refl }; shift = omega arith; marker = tt; extension = tt },
    tt,
  );
  spells = refl;
}
forward_line name n false few role = record {
  short =
      shorter (100 + 3 * 101) longest _
      (short_joined 100 (codes "forward") (name ∷ decimal n ∷ (codes "shift=" ++ decimal 7) ∷ []) (record { size = omega arith; ink = refl })
      (role.short, (word_of_number n (omega arith), (option_short (codes "shift=") 7 (record { size = omega arith; ink = refl }) (omega arith), tt)))) (omega arith);
  said = (
    role.is_name,
    record { count = refl; each = (omega arith, tt) },
    record { pt = tt; shift = omega arith; marker = tt; extension = tt },
    tt,
  );
  spells = refl;
}

rekey_line : (name : List ℕ) (n : ℕ) → IsRole name → IsLine (Rekey name (big_bytes 16 n))
rekey_line name n role = record {
  short =
      shorter (100 + 2 * 101) longest _ (short_joined 100 (codes "rekey") (name ∷ encode_lower (big_bytes 16 n) ∷ []) (record { size = omega arith; ink = refl })
      (role.short, (word_of_octets (big_bytes 16 n) (omega arith) (octets_of_number 16 n), tt))) (omega arith);
  said = (role.is_name, record { fits = record { some = omega arith; octets = octets_of_number 16 n }; passes = refl });
  spells = refl;
}

if_due : (b : Bool) (line : Script) → IsLine line → AllByRecursion IsLine (cond b (line ∷ []) [])
if_due true line is = (is, tt)
if_due false line is = tt

all_more : (xs ys : List Script) → AllByRecursion IsLine xs → AllByRecursion IsLine ys → AllByRecursion IsLine (xs ++ ys)
all_more [] ys a b = b
all_more (x ∷ xs) ys a b = (a.0, all_more xs ys a.1 b)

pub round_is : (r : ℕ) → r < 1000 → AllByRecursion IsLine (round_lines r)
round_is r few =
    let roles = are_roles r in
    let forwarded = forward_line (roles_of r).speaker (3 * r + 1) (r % 2 == 1) (omega arith) roles.speaker in
    let first = deliver_line (3 * r + 2) (roles_of r).first (omega arith) roles.first in
    let second = deliver_line (3 * r + 3) (roles_of r).second (omega arith) roles.second in
    let repeated = if_due (r % 5 == 4) (Deliver (3 * r + 2) (roles_of r).first) first in
    let rekeyed = if_due (r % 30 == 29) (Rekey (roles_of r).speaker (big_bytes 16 (1000 + r))) (rekey_line (roles_of r).speaker (1000 + r) roles.speaker) in
    (send_line r few, (forwarded, (first, (second, all_more (repeat_of r) (rekey_of r) repeated rekeyed))))

rounds_are : (from count : ℕ) → from + count ≤ 1000 → AllByRecursion IsLine (flat_map round_lines (range_with_len from count))
rounds_are from zero few = tt
rounds_are from (suc count) few =
    all_more (round_lines from) (flat_map round_lines (range_with_len (from + 1) count)) (round_is from (omega arith)) (rounds_are (from + 1) count (omega arith))

-- ---- the opening

key_word : (n x : ℕ) → n ≤ 50 → x < 256 → IsShort 100 (encode_lower (replicate n x))
key_word n x few octet = let count = count_repeated n x in word_of_octets (replicate n x) (omega arith) (octets_repeated n x octet)

join_line : (name : List ℕ) (ssrc octet : ℕ) → ssrc < 4 → octet < 253 → IsRole name → IsLine (join_of name ssrc octet)
join_line name ssrc octet few below role = record {
  short =
      shorter (100 + 6 * 101) longest _
      (short_joined 100 (codes "join")
      (name ∷ ssrc_text ssrc ∷ decimal 65400 ∷ encode_lower (replicate 28 (octet + 1)) ∷ encode_lower (replicate 28 (octet + 2)) ∷ encode_lower (replicate 16 (octet + 3)) ∷ [])
      (record { size = omega arith; ink = refl }) (
        role.short,
        (
          word_of_octets (big_bytes 4 ssrc) (omega arith) (octets_of_number 4 ssrc),
          (
            word_of_number 65400 (omega arith),
            (
              key_word 28 (octet + 1) (omega arith) (omega arith),
              (
                key_word 28 (octet + 2) (omega arith) (omega arith),
                (key_word 16 (octet + 3) (omega arith) (omega arith), tt),
              ),
            ),
          ),
        ),
      )) (omega arith);
  said = (
    role.is_name,
    omega arith,
    omega arith,
    record { fits = record { some = omega arith; octets = octets_repeated 28 (octet + 1) (omega arith) }; passes = refl },
    record { fits = record { some = omega arith; octets = octets_repeated 28 (octet + 2) (omega arith) }; passes = refl },
    record { fits = record { some = omega arith; octets = octets_repeated 16 (octet + 3) (omega arith) }; passes = refl },
  );
  spells = refl;
}

head_line : IsLine (Conference Aes128)
head_line = record { short = record { size = omega arith; ink = refl }; said = tt; spells = refl }

ekt_line : IsLine (Ekt (replicate 16 1) (replicate 12 2))
ekt_line = record {
  short =
      shorter (100 + 2 * 101) longest _
      (short_joined 100 (codes "ekt") (encode_lower (replicate 16 1) ∷ encode_lower (replicate 12 2) ∷ []) (record { size = omega arith; ink = refl })
      (key_word 16 1 (omega arith) (omega arith), (key_word 12 2 (omega arith) (omega arith), tt))) (omega arith);
  said = (
    record { fits = record { some = omega arith; octets = refl }; passes = refl },
    record { fits = record { some = omega arith; octets = refl }; passes = refl },
  );
  spells = refl;
}

pub opening_is : AllByRecursion IsLine opening
opening_is =
    let joined_ann = join_line (codes "Ann") 1 160 (omega arith) (omega arith) ann in
    let joined_bob = join_line (codes "Bob") 2 176 (omega arith) (omega arith) bob in
    let joined_cat = join_line (codes "Cat") 3 192 (omega arith) (omega arith) cat in
    (head_line, (ekt_line, (joined_ann, (joined_bob, (joined_cat, tt)))))

pub made_is : (rounds : ℕ) → rounds ≤ 1000 → AllByRecursion IsLine (made_lines rounds)
made_is rounds few = all_more opening (flat_map round_lines (range_with_len 0 rounds)) opening_is (rounds_are 0 rounds (omega arith))

pub made_split : (rounds : ℕ) → rounds ≤ 1000 → lines_of (made_script rounds) ≡ map script_text (made_lines rounds)
unfolding made_script
made_split rounds few = lines_split (made_lines rounds) (made_is rounds few)

abbrev pub OneSpelling : Type 0
OneSpelling = (octets : List ℕ) (script : Script) → (script_of octets ≡ Some script) ↔ (Spells octets script × IsScript script)

lines_read : (lines : List Script) → OneSpelling → AllByRecursion IsLine lines → map script_of (map script_text lines) ≡ map Some lines
lines_read [] one all = refl
lines_read (line ∷ lines) one all = λ i. (one (script_text line) line).1 (all.0.spells, all.0.said) i ∷ lines_read lines one all.1 i

pub made_read : (rounds : ℕ) → rounds ≤ 1000 → OneSpelling → map script_of (lines_of (made_script rounds)) ≡ map Some (made_lines rounds)
made_read rounds few one = ap (map script_of) (made_split rounds few) ∙ lines_read (made_lines rounds) one (made_is rounds few)
