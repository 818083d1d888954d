-- What is so between the lines of a round: what counts of a state, and the lines that leave it or change it plainly.
use Rattle.std.proofs.Common.{◌≡◌, ℕ, zero, suc, ◌+◌, ◌-◌, ◌<◌, ◌≤◌, Bool, true, false, cond, List, [], ◌∷◌, ◌++◌, length, Option, Some, None, Result, Ok, Err, refl, sym, ap, subst, ◌∙◌, arith}
use Rattle.std.specs.Prelude.{◌%◌, ◌==◌, codes, nat_le}
use Rattle.std.specs.Option.{option_map_or}
use Rattle.std.specs.List.{slice_get}
use Rattle.std.proofs.lemmas.Bool.{ne_eqb}
use Rattle.byteorder.specs.Endian.{big_bytes}
use Rattle.perc_rtp.specs.Carried.{kind_of}
use Rattle.perc_rtp.specs.Media.{Content}
use Rattle.perc_rtp.specs.declared.carried.Carried.{Carried}
use Rattle.perc_rtp.specs.declared.carried.Carried.TheVariants as carried
use Rattle.perc_endpoint.specs.Endpoint.{Endpoint, after_rekey, rekey_answer}
use Rattle.perc_endpoint.specs.declared.fault.GrantFault.{GrantFault}
use Rattle.perc_outgoing.specs.Sending.{outer_index}
use Rattle.perc_incoming.specs.Control.{outcome_rtcp}
use Rattle.perc_receiver.specs.Receiver.{outcome}
use Rattle.perc_receiver.specs.Foreign.{is_foreign}
use Rattle.perc_distributor.specs.Inbound.{Heard}
use Rattle.perc_distributor.specs.Forwarding.{Sealing}
use Rattle.perc_script_line.specs.Script.{Deliver, Rekey, Send}
use Rattle.perc_script_line.specs.declared.reason.Reason.{Reason}
use Rattle.perc_script_line.specs.declared.reason.Reason.TheVariants as reason
use Rattle.perc_run.specs.State.{Datagram, Goes, Halts, Member, Refused, State, Turn, datagram_at, most_datagrams}
use Rattle.perc_run.specs.Keys.{rekey_turn, rekeyed}
use Rattle.perc_run.specs.Sending.{content_of, send_turn}
use Rattle.perc_run.specs.Delivering.{answer_line, by_cipher, deliver_turn, delivered, heard_turn}
use Rattle.perc_run.specs.Turn.{turn}
use Rattle.perc_generator.specs.Generator.{no_options}
use Rattle.perc_generated.proofs.Opened.{Parts, member, state_of}
use Rattle.perc_generated.proofs.Passing.{Behind}

-- the outer indices that a member sealed, and its next index
pub record Sealer : Type 0 where
  pub sealed : List ℕ
  pub next : ℕ

abbrev pub sealer_of : Endpoint → Sealer
sealer_of e = record { sealed = e.sending.sealed; next = e.sending.sending.next }

-- what counts of a state: what each member sealed, what the distributor heard and sealed, and how many datagrams there are
pub record View : Type 0 where
  pub ann : Sealer
  pub bob : Sealer
  pub cat : Sealer
  pub heard : List Heard
  pub sealing : List Sealing
  pub made : ℕ

abbrev pub view_of : Parts → View
view_of p = record {
  ann = sealer_of p.ann;
  bob = sealer_of p.bob;
  cat = sealer_of p.cat;
  heard = p.heard;
  sealing = p.sealing;
  made = length p.datagrams;
}

-- The state has such a view.
pub record Has (V : View → Type 0) (s : State) : Type 0 where
  pub parts : Parts
  pub is : s ≡ state_of parts
  pub view : V (view_of parts)

pub data Who : Type 0 where
  Ann : Who
  Bob : Who
  Cat : Who

abbrev pub name_of : Who → List ℕ
name_of Ann = codes "Ann"
name_of Bob = codes "Bob"
name_of Cat = codes "Cat"

abbrev pub member_of : Who → Parts → Member
member_of Ann p = member (codes "Ann") 1 160 p.ann
member_of Bob p = member (codes "Bob") 2 176 p.bob
member_of Cat p = member (codes "Cat") 3 192 p.cat

-- ---- deliver

halted : (P : State → Type 0) (foreign : Bool) (name : List ℕ) (t : Turn) → Behind t P → Behind (cond foreign (Halts name) t) P
halted P true name t is = tt
halted P false name t is = is

delivered_as : (V : View → Type 0) (who : Who) (p : Parts) (n : ℕ) (octets : List ℕ) (kind : Carried) → V (view_of p)
    → Behind (delivered by_cipher (state_of p) n (member_of who p) octets kind) (Has V)
delivered_as V who p n octets carried.Dtls v = record { parts = p; is = refl; view = v }
delivered_as V who p n octets carried.Other v = record { parts = p; is = refl; view = v }
delivered_as V Ann p n octets carried.Rtcp v = record { parts = record p { ann = record p.ann { receiving = (outcome_rtcp p.ann.receiving octets).1 } }; is = refl; view = v }
delivered_as V Bob p n octets carried.Rtcp v = record { parts = record p { bob = record p.bob { receiving = (outcome_rtcp p.bob.receiving octets).1 } }; is = refl; view = v }
delivered_as V Cat p n octets carried.Rtcp v = record { parts = record p { cat = record p.cat { receiving = (outcome_rtcp p.cat.receiving octets).1 } }; is = refl; view = v }
delivered_as V Ann p n octets carried.Rtp v =
    let heard = outcome p.ann.receiving octets in
    halted (Has V) (is_foreign p.table p.ann.receiving octets) (codes "Ann") (heard_turn (state_of p) (member_of Ann p) (answer_line p.table n (codes "Ann") heard.0) heard.1)
    (record { parts = record p { ann = record p.ann { receiving = heard.1 } }; is = refl; view = v })
delivered_as V Bob p n octets carried.Rtp v =
    let heard = outcome p.bob.receiving octets in
    halted (Has V) (is_foreign p.table p.bob.receiving octets) (codes "Bob") (heard_turn (state_of p) (member_of Bob p) (answer_line p.table n (codes "Bob") heard.0) heard.1)
    (record { parts = record p { bob = record p.bob { receiving = heard.1 } }; is = refl; view = v })
delivered_as V Cat p n octets carried.Rtp v =
    let heard = outcome p.cat.receiving octets in
    halted (Has V) (is_foreign p.table p.cat.receiving octets) (codes "Cat") (heard_turn (state_of p) (member_of Cat p) (answer_line p.table n (codes "Cat") heard.0) heard.1)
    (record { parts = record p { cat = record p.cat { receiving = heard.1 } }; is = refl; view = v })

found_at : (datagrams : List Datagram) (k : ℕ) → k < length datagrams → (d : Datagram) × (slice_get datagrams k ≡ Some d)
found_at [] k within = absurd (omega arith)
found_at (d ∷ datagrams) zero within = (d, refl)
found_at (d ∷ datagrams) (suc k) within = found_at datagrams k (omega arith)

-- A number from 1 to the count of datagrams has its datagram.
pub numbered_at : (datagrams : List Datagram) (k : ℕ) → k < length datagrams → (d : Datagram) × (datagram_at datagrams (k + 1) ≡ Some d)
numbered_at datagrams k within =
    let found = found_at datagrams k within in
    let place : k + 1 - 1 ≡ k = omega arith in (
      found.0,
      ap (λ (b : Bool). cond b None (slice_get datagrams (k + 1 - 1))) (ne_eqb (k + 1) 0 (λ same. omega arith)) ∙ ap (slice_get datagrams) place ∙ found.1,
    )

deliver_at : (V : View → Type 0) (who : Who) (p : Parts) (n : ℕ) (d : Datagram) → datagram_at p.datagrams n ≡ Some d → V (view_of p)
    → Behind (option_map_or (λ x. delivered by_cipher (state_of p) n (member_of who p) x.octets (kind_of x.octets)) (datagram_at p.datagrams n) (Refused reason.Datagram)) (Has V)
deliver_at V who p n d found v =
    subst (λ (o : Option Datagram). Behind (option_map_or (λ x. delivered by_cipher (state_of p) n (member_of who p) x.octets (kind_of x.octets)) o (Refused reason.Datagram)) (Has V))
    (sym found) (delivered_as V who p n d.octets (kind_of d.octets) v)

deliver_is : (V : View → Type 0) (who : Who) (p : Parts) (n : ℕ) (d : Datagram) → datagram_at p.datagrams n ≡ Some d → V (view_of p)
    → Behind (turn by_cipher (state_of p) (Deliver n (name_of who))) (Has V)
unfolding turn deliver_turn
deliver_is V Ann p n d found v = deliver_at V Ann p n d found v
deliver_is V Bob p n d found v = deliver_at V Bob p n d found v
deliver_is V Cat p n d found v = deliver_at V Cat p n d found v

-- A delivery of a datagram that was made leaves what counts.
pub deliver_has : (V : View → Type 0) (who : Who) (s : State) (k n : ℕ) → n ≡ k + 1 → ((v : View) → V v → k < v.made) → Has V s → Behind (turn by_cipher s (Deliver n (name_of who))) (Has V)
deliver_has V who s k n is made h =
    let p : Parts = h.parts in
    let found = numbered_at p.datagrams k (made (view_of p) h.view) in
    subst (λ (x : State). Behind (turn by_cipher x (Deliver n (name_of who))) (Has V)) (sym h.is)
    (subst (λ (m : ℕ). Behind (turn by_cipher (state_of p) (Deliver m (name_of who))) (Has V)) (sym is) (deliver_is V who p (k + 1) found.0 found.1 h.view))

-- ---- rekey

rekey_by : (V : View → Type 0) (who : Who) (p : Parts) (key : List ℕ) (answer : Result ℕ GrantFault) → rekey_answer (member_of who p).endpoint key ≡ answer → V (view_of p)
    → Behind (rekeyed (state_of p) (member_of who p) key answer) (Has V)
rekey_by V who p key (Err f) is v = record { parts = p; is = refl; view = v }
rekey_by V Ann p key (Ok epoch) is v = record {
  parts = record p { ann = after_rekey p.ann key (rekey_answer p.ann key) };
  is = refl;
  view = subst (λ (e : Endpoint). V (view_of (record p { ann = e }))) (ap (after_rekey p.ann key) (sym is)) v;
}
rekey_by V Bob p key (Ok epoch) is v = record {
  parts = record p { bob = after_rekey p.bob key (rekey_answer p.bob key) };
  is = refl;
  view = subst (λ (e : Endpoint). V (view_of (record p { bob = e }))) (ap (after_rekey p.bob key) (sym is)) v;
}
rekey_by V Cat p key (Ok epoch) is v = record {
  parts = record p { cat = after_rekey p.cat key (rekey_answer p.cat key) };
  is = refl;
  view = subst (λ (e : Endpoint). V (view_of (record p { cat = e }))) (ap (after_rekey p.cat key) (sym is)) v;
}

rekey_is : (V : View → Type 0) (who : Who) (p : Parts) (n : ℕ) → V (view_of p) → Behind (turn by_cipher (state_of p) (Rekey (name_of who) (big_bytes 16 n))) (Has V)
unfolding turn rekey_turn
rekey_is V Ann p n v = rekey_by V Ann p (big_bytes 16 n) (rekey_answer p.ann (big_bytes 16 n)) refl v
rekey_is V Bob p n v = rekey_by V Bob p (big_bytes 16 n) (rekey_answer p.bob (big_bytes 16 n)) refl v
rekey_is V Cat p n v = rekey_by V Cat p (big_bytes 16 n) (rekey_answer p.cat (big_bytes 16 n)) refl v

-- A new key leaves what counts.
pub rekey_has : (V : View → Type 0) (who : Who) (s : State) (n : ℕ) → Has V s → Behind (turn by_cipher s (Rekey (name_of who) (big_bytes 16 n))) (Has V)
rekey_has V who s n h =
    subst (λ (x : State). Behind (turn by_cipher x (Rekey (name_of who) (big_bytes 16 n))) (Has V)) (sym h.is) (rekey_is V who h.parts n h.view)
