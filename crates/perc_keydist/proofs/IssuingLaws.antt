-- EKT keys: what is drawn, and what is issued of it.
use Rattle.std.specs.Option.{option_map}
use Rattle.std.specs.Prelude.{Option, Some, None, IfSome, Ok, Err, is_some, nat_le, replicate}
use Rattle.std.proofs.Common.{◌≡◌, ℕ, ◌-◌, ◌≤◌, ◌||◌, Bool, true, false, List, ◌++◌, length, take, drop, refl, sym, ap, subst, ◌∙◌, arith}
use Rattle.std.proofs.lemmas.Bool.{cond-true, cond-false}
use Rattle.std.proofs.lemmas.List.{take_at, drop_at, length-append, length-replicate, length-take, length-take-le}
use Rattle.perc_base.specs.Outside.{Fills, drawn}
use Rattle.perc_base.specs.Profile.{key_length}
use Rattle.perc_base.specs.declared.profile.Profile.{Profile}
use Rattle.perc_base.specs.declared.profile.Profile.TheVariants.{Aes128, Aes256}
use Rattle.perc_kdf.specs.Derivation.{KeyAndSalt}
use Rattle.perc_ekt.specs.declared.record.EktKeyRecord.{EktKeyRecord}
use Rattle.perc_ekt.specs.Key.{stored}
use Rattle.perc_kdf.specs.Order.{same_pair}
use Rattle.perc_tunnel.specs.declared.message.MediaKeys.{MediaKeys}
use Rattle.perc_keeper.specs.Lists.{Lists, MayJoin, is_member, key_of, spi_of, was_given, with_issued, with_member}
use Rattle.perc_keydist.specs.Causes.{told_as}
use Rattle.perc_keydist.specs.declared.fault.KdFault.{KdFault}
use Rattle.perc_keydist.specs.Distributing.{Fault, SpiSpent, KeyRepeated, Part, admitting, behind_pair, drawn_pair, drawn_record, issue, issuing, next_spi, repeats}
use Rattle.perc_keydist.specs.Gives.{Admits, Gives, Keeps, members_told}

-- a buffer is filled from what is told
pub fills_told : (randoms : List ℕ) (before after : Option (List ℕ)) (buffer new : List ℕ) → before ≡ Some randoms → Fills before after buffer new
    → (new ≡ drawn (length buffer) randoms) × (after ≡ Some (drop (length buffer) randoms))
fills_told randoms before after buffer new e h = subst (λ (o : Option (List ℕ)). Fills o after buffer new) e h

drawn-length : (n : ℕ) (xs : List ℕ) → length (drawn n xs) ≡ n
drawn-length n xs =
    let zeros : List ℕ = replicate (n - length xs) 0 in
    let more : length zeros ≡ n - length xs = length-replicate (n - length xs) 0 in
    length-append (take n xs) zeros ∙ omega (arith, length-take n xs, more)

few : (p : Profile) → key_length p ≤ 32
few Aes128 = omega arith
few Aes256 = omega arith

-- a key in the front of its room is filled
pub key_filled : (p : Profile) (k : ℕ) (randoms room key : List ℕ) (before after : Option (List ℕ)) → k ≡ key_length p → length room ≡ 32 → before ≡ Some randoms
    → Fills before after (take k room) key
    → (take (key_length p) (key ++ drop k room) ≡ drawn (key_length p) randoms) × (after ≡ Some (drop (key_length p) randoms))
key_filled p k randoms room key before after is size known filled =
    let n = key_length p in
    let part : length (take k room) ≡ n = ap (λ (i : ℕ). length (take i room)) is ∙ length-take-le n room (omega (arith, few p, size)) in
    let a = fills_told randoms before after (take k room) key known filled in
    let key_is : key ≡ drawn n randoms = a.0 ∙ ap (λ (i : ℕ). drawn i randoms) part in
    let key_size : length key ≡ n = ap length key_is ∙ drawn-length n randoms in
    (take_at key (drop k room) n key_size ∙ key_is, a.1 ∙ ap (λ (i : ℕ). Some (drop i randoms)) part)

-- a salt is filled
pub salt_filled : (randoms room salt : List ℕ) (before after : Option (List ℕ)) → length room ≡ 12 → before ≡ Some randoms → Fills before after room salt
    → (salt ≡ drawn 12 randoms) × (after ≡ Some (drop 12 randoms))
salt_filled randoms room salt before after size known filled =
    let a = fills_told randoms before after room salt known filled in
    (a.0 ∙ ap (λ (i : ℕ). drawn i randoms) size, a.1 ∙ ap (λ (i : ℕ). Some (drop i randoms)) size)

-- a key that stands in front, and a salt that was drawn behind it
pub pair_drawn : (n k : ℕ) (randoms key salt : List ℕ) (pair : KeyAndSalt) → pair ≡ record { key = take k key; salt = salt } → k ≡ n → take n key ≡ drawn n randoms
    → salt ≡ drawn 12 (drop n randoms) → pair ≡ drawn_pair n randoms
pair_drawn n k randoms key salt pair is same key_is salt_is =
    let front : take k key ≡ drawn n randoms = ap (λ (i : ℕ). take i key) same ∙ key_is in
    let both : (record { key = take k key; salt = salt }) ≡ drawn_pair n randoms = λ i. record { key = front i; salt = salt_is i } in
    is ∙ both

-- a key in its room of 32 octets
pub stored_room : (p : Profile) (key : List ℕ) → length key ≡ key_length p → length (stored key) ≡ 32
stored_room p key size =
    let zeros : List ℕ = replicate (32 - length key) 0 in
    let more : length zeros ≡ 32 - length key = length-replicate (32 - length key) 0 in
    length-append key zeros ∙ omega (arith, few p, size, more)

pub stored_zeros : (p : Profile) (key : List ℕ) → length key ≡ key_length p → drop (key_length p) (stored key) ≡ replicate (32 - key_length p) 0
stored_zeros p key size = drop_at key (replicate (32 - length key) 0) (key_length p) size ∙ ap (λ (k : ℕ). replicate (32 - k) 0) size

-- a record is the one of a drawn pair
pub is_drawn_record : (p : Profile) (issued : List EktKeyRecord) (pair : KeyAndSalt) (r : EktKeyRecord) → r.key ≡ stored pair.key → r.len ≡ key_length p
    → r.salt ≡ pair.salt → r.spi ≡ next_spi issued → r.life ≡ 86400 → r ≡ drawn_record p issued pair
is_drawn_record p issued pair r key len salt spi life = λ i. record { key = key i; len = len i; salt = salt i; spi = spi i; life = life i }

pub key_of_drawn : (p : Profile) (issued : List EktKeyRecord) (pair : KeyAndSalt) → length pair.key ≡ key_length p → key_of (drawn_record p issued pair) ≡ pair.key
key_of_drawn p issued pair size = take_at pair.key (replicate (32 - length pair.key) 0) (key_length p) size

-- an SPI was due, a pair was drawn, and what became of its record is what the definition says
module _ (p : Profile) (l : Lists) (randoms : List ℕ) (r : EktKeyRecord) (left : Option (List ℕ))
    (due : nat_le 65536 (next_spi l.issued) ≡ false)
    (size : length (drawn_pair (key_length p) randoms).key ≡ key_length p)
    (is : r ≡ drawn_record p l.issued (drawn_pair (key_length p) randoms))
    (rest : left ≡ Some (behind_pair (key_length p) randoms)) where
  abbrev pair : KeyAndSalt
  pair = drawn_pair (key_length p) randoms

  abbrev spent : Part EktKeyRecord
  spent = record { answer = Err SpiSpent; lists = l; randoms = randoms }

  abbrev again : Part EktKeyRecord
  again = record { answer = Err KeyRepeated; lists = l; randoms = behind_pair (key_length p) randoms }

  abbrev new : Part EktKeyRecord
  new = record { answer = Ok (drawn_record p l.issued pair); lists = with_issued (drawn_record p l.issued pair) l; randoms = behind_pair (key_length p) randoms }

  is_issuing : issue p l randoms ≡ issuing p l pair (behind_pair (key_length p) randoms)
  is_issuing = cond-false (nat_le 65536 (next_spi l.issued)) spent (issuing p l pair (behind_pair (key_length p) randoms)) due

  same_key : key_of r ≡ pair.key
  same_key = ap key_of is ∙ key_of_drawn p l.issued pair size

  pub kept_gives : (now : Option Lists) → Keeps {X = Unit {0}} l r (Ok (record {})) now → Gives (issue p l randoms) (Ok r) now left
  kept_gives now (fresh, stands) =
      let unused : is_some (spi_of l.issued pair.key) ≡ false = ap (λ (k : List ℕ). is_some (spi_of l.issued k)) (sym same_key) ∙ fresh in
      let part : issue p l randoms ≡ new = is_issuing ∙ cond-false (is_some (spi_of l.issued pair.key)) again new unused in
      subst (λ (q : Part EktKeyRecord). Gives q (Ok r) now left) (sym part)
      (ap (λ (q : EktKeyRecord). Ok q) (sym is), stands ∙ ap (λ (q : EktKeyRecord). Some (with_issued q l)) is, rest)

  pub refused_gives : (e : KdFault) (now : Option Lists) → Keeps {X = Unit {0}} l r (Err e) now → Gives (issue p l randoms) (Err e) now left
  refused_gives e now (stands, fault) = by_case (told_as e) fault where
    by_case : (o : Option Fault) → IfSome o (λ f. (f ≡ KeyRepeated) × (is_some (spi_of l.issued (key_of r)) ≡ true))
        → IfSome o (λ f. ((issue p l randoms).answer ≡ Err f) × (now ≡ Some (issue p l randoms).lists) × (left ≡ Some (issue p l randoms).randoms))
    by_case None h = tt
    by_case (Some f) (is_repeated, used) =
        let old : is_some (spi_of l.issued pair.key) ≡ true = ap (λ (k : List ℕ). is_some (spi_of l.issued k)) (sym same_key) ∙ used in
        let part : issue p l randoms ≡ again = is_issuing ∙ cond-true (is_some (spi_of l.issued pair.key)) again new old in
        subst (λ (q : Part EktKeyRecord). (q.answer ≡ Err f) × (now ≡ Some q.lists) × (left ≡ Some q.randoms)) (sym part)
        (ap (λ (g : Fault). Err g) (sym is_repeated), stands, rest)

-- who is a member stays so where a record is issued
pub members_issued : (r : EktKeyRecord) (told : Option Lists) → members_told (option_map (with_issued r) told) ≡ members_told told
members_issued r None = refl
members_issued r (Some l) = refl

-- ---- a new member

three_false : (a b c : Bool) → (a || (b || c)) ≡ false → (a ≡ false) × (b ≡ false) × (c ≡ false)
three_false false false false e = (refl, refl, refl)
three_false true b c e = absurd cc
three_false false true c e = absurd cc
three_false false false true e = absurd cc

pub may_join : (told : Option Lists) (k : MediaKeys) → ((l : Lists) → told ≡ Some l → is_member l.members k.association ≡ false)
    → ((l : Lists) → told ≡ Some l → repeats k l ≡ false) → IfSome told (MayJoin k)
may_join None k stranger fresh = tt
may_join (Some l) k stranger fresh =
    let tests = three_false (same_pair k.client k.server) (was_given l.given k.client) (was_given l.given k.server) (fresh l refl) in
    record { stranger = stranger l refl; apart = tests.0; client = tests.1; server = tests.2 }

-- keys were drawn that may not be kept, or couldn't be
pub refused_admits : (l : Lists) (k drawn_k : MediaKeys) (randoms : List ℕ) (left : Option (List ℕ)) (e : KdFault) (now : Option Lists) → k ≡ drawn_k → left ≡ Some randoms
    → Admits {X = Unit {0}} l k (Err e) now → Gives (admitting l drawn_k randoms) (Err e) now left
refused_admits l k drawn_k randoms left e now is rest (stands, fault) = by_case (told_as e) fault where
  by_case : (o : Option Fault) → IfSome o (λ f. (f ≡ KeyRepeated) × (repeats k l ≡ true))
      → IfSome o (λ f. ((admitting l drawn_k randoms).answer ≡ Err f) × (now ≡ Some (admitting l drawn_k randoms).lists) × (left ≡ Some (admitting l drawn_k randoms).randoms))
  by_case None h = tt
  by_case (Some f) (is_repeated, old) =
      let same : repeats drawn_k l ≡ true = ap (λ (q : MediaKeys). repeats q l) (sym is) ∙ old in
      let again : Part MediaKeys = record { answer = Err KeyRepeated; lists = l; randoms = randoms } in
      let part : admitting l drawn_k randoms ≡ again = cond-true (repeats drawn_k l) again (record { answer = Ok drawn_k; lists = with_member drawn_k l; randoms = randoms }) same in
      subst (λ (q : Part MediaKeys). (q.answer ≡ Err f) × (now ≡ Some q.lists) × (left ≡ Some q.randoms)) (sym part)
      (ap (λ (g : Fault). Err g) (sym is_repeated), stands, rest)
