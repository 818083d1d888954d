-- Streams of messages: one reading, and what any calls of a decoder lead to.
use Rattle.std.proofs.Common.{◌≡◌, ℕ, ◌+◌, ◌≤◌, inl, inr, List, [], ◌∷◌, ◌++◌, length, take, drop, Option, Some, None, Ok, Err, IfSome, refl, sym, ap, subst, ◌∙◌, arith, append_assoc}
use Rattle.std.specs.List.{flat_map, All}
use Rattle.std.proofs.lemmas.List.{length-append, append-nil, take_at, append_cancel_left, take-append-le, length-take-le, take-append-drop}
use Rattle.std.proofs.lemmas.List.Elements.{All-head, All-tail, All-nil, All-push}
use Rattle.std.proofs.lemmas.Grind.{flat_map-append}
use Rattle.perc_tunnel.specs.declared.decoder.TunnelFault.{TunnelFault}
use Rattle.perc_tunnel.specs.declared.forms.Form.{Form}
use Rattle.perc_tunnel.specs.Message.{TunnelMessage, IsMessage, spelling}
use Rattle.perc_tunnel.specs.Stream.{BeginsWithMessage, IsPart, IsStream, IsFaultyAt, HasReason}
use Rattle.perc_tunnel.specs.Decoding.{Decoding, fed, taken, Decodes, Call, Feed, Next, given_by, Leads, IsExact, Answer, AnswersAfter, IsExactAnswer, fresh}
use Rattle.perc_tunnel.specs.Forms.{kind_of, form_at, Suits, message_at}
use Rattle.perc_tunnel.proofs.Suiting.{form_told, length_fits, Suits-front}
use Rattle.perc_tunnel.proofs.Whole.{form_in, read_again}

some_is : {A : Type 0} (x y : A) → Some x ≡ Some y → x ≡ y
some_is x y e = cc

-- ---- one message

-- two forms that suit the same three octets are one, with one length
one_form : (f g : Form) (n k : ℕ) (xs : List ℕ) → Suits f n xs → Suits g k xs → 3 ≤ length xs → (f ≡ g) × (n ≡ k)
one_form f g n k xs s t long =
    let n-fits = length_fits f n s.length in
    let k-fits = length_fits g k t.length in
    let kind : kind_of f ≡ kind_of g = sym (s.fixed.0 (omega arith)) ∙ t.fixed.0 (omega arith) in
    let high = sym (s.fixed.1.0 (omega arith)) ∙ t.fixed.1.0 (omega arith) in
    let low = sym (s.fixed.1.1.0 (omega arith)) ∙ t.fixed.1.1.0 (omega arith) in
    let same : n ≡ k = omega arith in
    let told : Some f ≡ Some g =
    sym (form_told f n s.length) ∙ ap (λ (z : ℕ). form_at z n) kind ∙ ap (form_at (kind_of g)) same ∙ form_told g k t.length in
    (some_is f g told, same)

-- where two messages' spellings are fronts of one list, they are one message
one_front : (m n : TunnelMessage) (xs a b : List ℕ) → IsMessage m → IsMessage n → xs ≡ spelling m ++ a → xs ≡ spelling n ++ b → m ≡ n
one_front m n xs a b is-m is-n e f =
    let v = read_again m is-m in
    let w = read_again n is-n in
    let three : List ℕ = take 3 xs in
    let m-long : 3 ≤ length (spelling m) = omega (arith, v.0.2) in
    let n-long : 3 ≤ length (spelling n) = omega (arith, w.0.2) in
    let m-three : three ≡ take 3 (spelling m) = ap (take 3) e ∙ take-append-le 3 (spelling m) a m-long in
    let n-three : three ≡ take 3 (spelling n) = ap (take 3) f ∙ take-append-le 3 (spelling n) b n-long in
    let s : Suits (form_in m) v.0.0 three = subst (Suits (form_in m) v.0.0) (sym m-three) (front (form_in m) v.0.0 (spelling m) v.0.1) in
    let t : Suits (form_in n) w.0.0 three = subst (Suits (form_in n) w.0.0) (sym n-three) (front (form_in n) w.0.0 (spelling n) w.0.1) in
    let size : length three ≡ 3 = ap length m-three ∙ length-take-le 3 (spelling m) m-long in
    let one = one_form (form_in m) (form_in n) v.0.0 w.0.0 three s t (omega arith) in
    let len : length (spelling m) ≡ length (spelling n) = v.0.2 ∙ ap (λ (k : ℕ). 3 + k) one.1 ∙ sym w.0.2 in
    let spelled : spelling m ≡ spelling n =
    sym (take_at (spelling m) a (length (spelling m)) refl) ∙ ap (take (length (spelling m))) (sym e ∙ f) ∙ take_at (spelling n) b (length (spelling m)) (sym len) in
    sym v.1 ∙ ap (λ (g : Form). message_at g (spelling m)) one.0 ∙ ap (message_at (form_in n)) spelled ∙ w.1
  where
    front : (g : Form) (k : ℕ) (ys : List ℕ) → Suits g k ys → Suits g k (take 3 ys)
    front g k ys s = Suits-front g k (take 3 ys) (drop 3 ys) (subst (Suits g k) (sym (take-append-drop 3 ys)) s)

pub one_message : (m n : TunnelMessage) (a b : List ℕ) → IsMessage m → IsMessage n → spelling m ++ a ≡ spelling n ++ b → (m ≡ n) × (a ≡ b)
one_message m n a b is-m is-n e =
    let same : m ≡ n = one_front m n (spelling m ++ a) a b is-m is-n refl e in
    (same, append_cancel_left (spelling m) a b (e ∙ ap (λ (k : TunnelMessage). spelling k ++ b) (sym same)))

-- what begins with a message is no part of one
pub no_part_begins : (octets : List ℕ) → BeginsWithMessage octets → IsPart octets → ⊥
no_part_begins octets b p =
    let whole : spelling p.0 ≡ spelling b.0 ++ (b.1 ++ p.1) = p.4 ∙ ap (λ (l : List ℕ). l ++ p.1) b.3 ∙ append_assoc (spelling b.0) b.1 p.1 in
    let same = one_message p.0 b.0 [] (b.1 ++ p.1) p.2 b.2 (append-nil (spelling p.0) ∙ whole) in
    let none = ap length same.1 in
    omega (arith, none, length-append b.1 p.1, p.3)

-- ---- one reading

-- Neither rest begins with a message, so they are one, behind the same messages.
one_split : (ms ns : List TunnelMessage) (r s : List ℕ) → All IsMessage ms → All IsMessage ns → (BeginsWithMessage r → ⊥) → (BeginsWithMessage s → ⊥)
    → flat_map spelling ms ++ r ≡ flat_map spelling ns ++ s → (ms ≡ ns) × (r ≡ s)
one_split [] [] r s each-m each-n no-r no-s e = (refl, e)
one_split [] (n ∷ ns) r s each-m each-n no-r no-s e =
    absurd (no-r (n, flat_map spelling ns ++ s, All-head IsMessage n ns each-n, e ∙ append_assoc (spelling n) (flat_map spelling ns) s))
one_split (m ∷ ms) [] r s each-m each-n no-r no-s e =
    absurd (no-s (m, flat_map spelling ms ++ r, All-head IsMessage m ms each-m, sym e ∙ append_assoc (spelling m) (flat_map spelling ms) r))
one_split (m ∷ ms) (n ∷ ns) r s each-m each-n no-r no-s e =
    let split : spelling m ++ (flat_map spelling ms ++ r) ≡ spelling n ++ (flat_map spelling ns ++ s) =
    sym (append_assoc (spelling m) (flat_map spelling ms) r) ∙ e ∙ append_assoc (spelling n) (flat_map spelling ns) s in
    let one = one_message m n (flat_map spelling ms ++ r) (flat_map spelling ns ++ s) (All-head IsMessage m ms each-m) (All-head IsMessage n ns each-n) split in
    let rest = one_split ms ns r s (All-tail IsMessage m ms each-m) (All-tail IsMessage n ns each-n) no-r no-s one.1 in
    (ap (λ (k : TunnelMessage). k ∷ ms) one.0 ∙ ap (λ (l : List TunnelMessage). n ∷ l) rest.0, rest.1)

pub one_stream : (ms ns : List TunnelMessage) (r s octets : List ℕ) → IsStream ms r octets → IsStream ns s octets → (ms ≡ ns) × (r ≡ s)
one_stream ms ns r s octets p q =
    one_split ms ns r s p.each q.each (λ b. no_part_begins r b p.part) (λ b. no_part_begins s b q.part) (sym p.octets ∙ q.octets)

pub one_fault : (p q : ℕ) (ms ns : List TunnelMessage) (r s octets : List ℕ) → IsFaultyAt p ms r octets → IsFaultyAt q ns s octets → (p ≡ q) × (ms ≡ ns)
one_fault p q ms ns r s octets f g =
    let one = one_split ms ns r s f.each g.each f.no_message g.no_message (sym f.octets ∙ g.octets) in
    (f.offset ∙ ap (λ (l : List TunnelMessage). length (flat_map spelling l)) one.0 ∙ sym g.offset, one.0)

pub never_both : (q : ℕ) (ms ns : List TunnelMessage) (r s octets : List ℕ) → IsStream ms r octets → IsFaultyAt q ns s octets → ⊥
never_both q ms ns r s octets p g =
    let one = one_split ms ns r s p.each g.each (λ b. no_part_begins r b p.part) g.no_message (sym p.octets ∙ g.octets) in
    g.no_part (subst IsPart one.1 p.part)

-- ---- any calls

-- a feed
pub exact_fed : (stream : List ℕ) (messages : List TunnelMessage) (d : Decoding) (piece : List ℕ) → IsExact stream messages d
    → IsExact (stream ++ take (taken d (length piece)) piece) messages (fed d piece)
exact_fed stream messages d piece is = record {
  each = is.each;
  octets = ap (λ (l : List ℕ). l ++ part) is.octets ∙ append_assoc (flat_map spelling messages) d.held part;
  given = is.given;
  fault = still d.fault refl is.fault;
}
  where
    part : List ℕ
    part = take (taken d (length piece)) piece

    still : (o : Option TunnelFault) → d.fault ≡ o → IfSome o (λ fault. IsFaultyAt fault.offset messages d.held stream × HasReason d.held fault.reason)
        → IfSome o (λ fault. IsFaultyAt fault.offset messages (d.held ++ part) (stream ++ part) × HasReason (d.held ++ part) fault.reason)
    still None e f = tt
    still (Some fault) e f =
        let none : taken d (length piece) ≡ 0 = ap (λ (o : Option TunnelFault). taken (record d { fault = o }) (length piece)) e in
        let held : d.held ++ part ≡ d.held = ap (λ (k : ℕ). d.held ++ take k piece) none ∙ append-nil d.held in
        let octets : stream ++ part ≡ stream = ap (λ (k : ℕ). stream ++ take k piece) none ∙ append-nil stream in
        subst (λ h. IsFaultyAt fault.offset messages h (stream ++ part) × HasReason h fault.reason) (sym held)
        (subst (λ l. IsFaultyAt fault.offset messages d.held l × HasReason d.held fault.reason) (sym octets) f)

-- a fault
pub exact_fault : (stream : List ℕ) (messages : List TunnelMessage) (d new : Decoding) (fault : TunnelFault) → IsExact stream messages d → Decodes d (Err fault) new
    → IsFaultyAt fault.offset messages d.held stream × HasReason d.held fault.reason
exact_fault stream messages d new fault is h = elim h.1 [
  | inl e ↦ subst (λ o. IfSome o (λ found. IsFaultyAt found.offset messages d.held stream × HasReason d.held found.reason)) e is.fault
  | inr f ↦ (
    record { each = is.each; octets = is.octets; offset = f.offset ∙ is.given; no_message = f.no_message; no_part = f.no_part },
    f.reason,
  )
]

-- a call for the next message
pub exact_next : (stream : List ℕ) (messages : List TunnelMessage) (d new : Decoding) (answer : Answer) → IsExact stream messages d
    → Decodes d answer new → IsExact stream (messages ++ given_by answer) new
exact_next stream messages d new (Ok (Some m)) is h =
    let flat : flat_map spelling (messages ++ m ∷ []) ≡ flat_map spelling messages ++ spelling m =
    flat_map-append spelling messages (m ∷ []) ∙ ap (λ (l : List ℕ). flat_map spelling messages ++ l) (append-nil (spelling m)) in
    record {
      each = All-push IsMessage messages m is.each h.1;
      octets = is.octets ∙ ap (λ (l : List ℕ). flat_map spelling messages ++ l) h.2 ∙ sym (append_assoc (flat_map spelling messages) (spelling m) new.held)
          ∙ ap (λ (l : List ℕ). l ++ new.held) (sym flat);
      given = h.3 ∙ ap (λ (k : ℕ). k + length (spelling m)) is.given ∙ sym (length-append (flat_map spelling messages) (spelling m)) ∙ ap length (sym flat);
      fault = subst
          (λ o. IfSome o (λ fault. IsFaultyAt fault.offset (messages ++ m ∷ []) new.held stream × HasReason new.held fault.reason))
          (sym h.4) tt;
    }
exact_next stream messages d new (Ok None) is h =
    subst (λ l. IsExact stream l new) (sym (append-nil messages)) (subst (IsExact stream messages) (sym h.2) is)
exact_next stream messages d new (Err fault) is h =
    let at = exact_fault stream messages d new fault is h in
    let known : IsExact stream messages (record d { fault = Some fault }) = record { each = is.each; octets = is.octets; given = is.given; fault = at } in
    subst (λ l. IsExact stream l new) (sym (append-nil messages)) (subst (IsExact stream messages) (sym h.0) known)

-- Calls lead from what is exact to what is exact.
exact_after : (calls : List Call) (stream octets : List ℕ) (before messages : List TunnelMessage) (d new : Decoding) → IsExact stream before d
    → Leads d calls octets messages new → IsExact (stream ++ octets) (before ++ messages) new
exact_after [] stream octets before messages d new is leads =
    subst (λ l. IsExact (stream ++ l) (before ++ messages) new) (sym leads.1)
    (subst (λ l. IsExact (stream ++ []) (before ++ l) new) (sym leads.2)
    (subst (λ l. IsExact l (before ++ []) new) (sym (append-nil stream))
    (subst (λ l. IsExact stream l new) (sym (append-nil before)) (subst (IsExact stream before) (sym leads.0) is))))
exact_after (Feed piece ∷ calls) stream octets before messages d new is leads =
    let part : List ℕ = take (taken d (length piece)) piece in
    let rest = exact_after calls (stream ++ part) leads.0 before messages (fed d piece) new (exact_fed stream before d piece is) leads.2 in
    subst (λ l. IsExact l (before ++ messages) new) (append_assoc stream part leads.0 ∙ ap (λ (l : List ℕ). stream ++ l) (sym leads.1)) rest
exact_after (Next answer ∷ calls) stream octets before messages d new is leads =
    let rest = exact_after calls stream octets (before ++ given_by answer) leads.1 leads.0 new (exact_next stream before d leads.0 answer is leads.2) leads.4 in
    subst (λ l. IsExact (stream ++ octets) l new)
    (append_assoc before (given_by answer) leads.1 ∙ ap (λ (l : List TunnelMessage). before ++ l) (sym leads.3)) rest

pub any_pieces : (calls : List Call) (octets : List ℕ) (messages : List TunnelMessage) (d : Decoding) → Leads fresh calls octets messages d → IsExact octets messages d
any_pieces calls octets messages d leads =
    let start : IsExact [] [] fresh = record { each = All-nil IsMessage; octets = refl; given = refl; fault = tt } in
    exact_after calls [] octets [] messages fresh d start leads

-- ---- the next answer

not_none : (m : TunnelMessage) (a : Answer) → a ≡ Ok (Some m) → a ≡ Ok None → ⊥
not_none m a e f = cc

not_fault : (o : Option TunnelMessage) (g : TunnelFault) (a : Answer) → a ≡ Ok o → a ≡ Err g → ⊥
not_fault o g a e f = cc

same_message : (m k : TunnelMessage) (a : Answer) → a ≡ Ok (Some m) → a ≡ Ok (Some k) → m ≡ k
same_message m k a e f = cc

same_fault : (f g : TunnelFault) (a : Answer) → a ≡ Err f → a ≡ Err g → f ≡ g
same_fault f g a e h = cc

pub exact_answer : (stream : List ℕ) (messages : List TunnelMessage) (d new : Decoding) (answer : Answer) → IsExact stream messages d
    → Decodes d answer new → IsExactAnswer stream messages d.held answer
exact_answer stream messages d new (Ok (Some m)) is h =
    let begins : BeginsWithMessage d.held = (m, new.held, h.1, h.2) in
    record {
      none = (λ e. absurd (not_none m (Ok (Some m)) refl e), λ s. absurd (no_part_begins d.held begins s.part));
      message = λ k. (
        λ e. let same : m ≡ k = same_message m k (Ok (Some m)) refl e in
            (subst IsMessage same h.1, new.held, h.2 ∙ ap (λ (z : TunnelMessage). spelling z ++ new.held) same),
        λ b. ap (λ (z : TunnelMessage). Ok (Some z)) (one_message m k new.held b.1 h.1 b.0 (sym h.2 ∙ b.2)).0,
      );
      fault = λ offset. (λ f. absurd (not_fault (Some m) f.0 (Ok (Some m)) refl f.1), λ f. absurd (f.no_message begins));
    }
exact_answer stream messages d new (Ok None) is h = record {
  none = (λ _. record { each = is.each; octets = is.octets; part = h.1 }, λ _. refl);
  message = λ k. (λ e. absurd (not_none k (Ok None) e refl), λ b. absurd (no_part_begins d.held (k, b.1, b.0, b.2) h.1));
  fault = λ offset. (λ f. absurd (not_fault None f.0 (Ok None) refl f.1), λ f. absurd (f.no_part h.1));
}
exact_answer stream messages d new (Err fault) is h =
    let at = exact_fault stream messages d new fault is h in
    record {
      none = (λ e. absurd (not_fault None fault (Err fault) e refl), λ s. absurd (at.0.no_part s.part));
      message = λ k. (λ e. absurd (not_fault (Some k) fault (Err fault) e refl), λ b. absurd (at.0.no_message (k, b.1, b.0, b.2)));
      fault = λ offset. (
        λ f. subst (λ p. IsFaultyAt p messages d.held stream) (ap (λ (g : TunnelFault). g.offset) (same_fault fault f.0 (Err fault) refl f.1) ∙ f.2) at.0,
        λ f. (fault, refl, at.0.offset ∙ sym f.offset),
      );
    }

pub next_answer : (calls : List Call) (octets : List ℕ) (messages : List TunnelMessage) (d : Decoding) (answer : Answer)
    → AnswersAfter calls octets messages d answer → IsExactAnswer octets messages d.held answer
next_answer calls octets messages d answer a =
    exact_answer octets messages d a.new answer (any_pieces calls octets messages d a.leads) a.decodes
