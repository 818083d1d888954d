-- A round passes, and so does a generated script.
use Rattle.std.proofs.Common.{◌≡◌, ℕ, ◌+◌, ◌*◌, ◌%◌, ◌<◌, ◌≤◌, Bool, true, false, cond, List, [], ◌∷◌, ◌++◌, length, Option, Some, None, refl, sym, ap, subst, ◌∙◌, arith}
use Rattle.std.specs.Prelude.{◌==◌, codes, replicate}
use Rattle.std.specs.List.{AllByRecursion}
use Rattle.std.proofs.lemmas.List.{length_push}
use Rattle.byteorder.specs.Endian.{big_bytes}
use Rattle.perc_double.specs.Double.{nothing_kept}
use Rattle.perc_outgoing.specs.Sending.{Outgoing, outer_index, sent_header, sent_inner}
use Rattle.perc_outgoing.proofs.Standing.{free_outer}
use Rattle.perc_outer.specs.Streams.{OuterStream}
use Rattle.perc_rtp.specs.Media.{Content}
use Rattle.perc_distributor.specs.Inbound.{Heard}
use Rattle.perc_distributor.specs.Forwarding.{Sealing}
use Rattle.perc_script_line.specs.Script.{Changes, Deliver, Forward, Rekey, Script, Send, script_of, script_text}
use Rattle.perc_report_line.specs.Report.{Report}
use Rattle.perc_run.specs.State.{Goes, Halts, Refused, State, Turn, most_datagrams, nobody}
use Rattle.perc_run.specs.Sending.{sent_by}
use Rattle.perc_run.specs.Forwarding.{rewrite_by}
use Rattle.perc_run.specs.Delivering.{Judge, by_cipher}
use Rattle.perc_run.specs.Report.{turn_at}
use Rattle.perc_run.specs.Sound.{IsOrderly}
use Rattle.perc_run.specs.Turn.{turn}
use Rattle.perc_generator.specs.Generator.{Roles, changes_of, no_options, opening, roles_of, round_lines}
use Rattle.perc_generated.proofs.Reading.{IsLine, OneSpelling, opening_is, round_is}
use Rattle.perc_generated.proofs.Short.{count_repeated}
use Rattle.perc_generated.proofs.Passing.{Behind, KeepsRounds, Passes, behind_map}
use Rattle.perc_generated.proofs.Opened.{Parts, begun, opening_passes, state_of}
use Rattle.perc_generated.proofs.Between.{Ann, Bob, Cat, Has, View, Who, deliver_has, member_of, name_of, rekey_has, view_of}
use Rattle.perc_generated.proofs.Relay.{HasPlaces, IsForwarded, first_of, forward_is, in_entries, second_of}
use Rattle.perc_generated.proofs.Streams.{Hears, heard_more}
use Rattle.perc_generated.proofs.Sent.{IsPlain, content_at, field_spells, taken_is}
use Rattle.perc_generated.proofs.Kept.{IsBetween, keeps_between, sealed_twice, view_more}
use Rattle.perc_generated.proofs.Rounds.{IsReady, IsShift, MaySend, is_ready, last_datagram, may_send, out_of, own_entry, place_at, send_is, sent_parts, takes_behind, takes_in}

-- ---- a send and its forward

places_are : (who : Who) (p : Parts) (may : MaySend who p) (ready : IsReady who p) (pt : ℕ) (marker : Bool) (timestamp : ℕ) (payload : List ℕ) (changes : Changes) → IsPlain pt timestamp payload
    → IsShift (rewrite_by changes)
    → let out = out_of who p in
    let c = content_at pt marker timestamp payload in
    HasPlaces (in_entries p.sealing) (first_of who) (second_of who) (sent_header out c) (sent_inner out c) nothing_kept (field_spells out (own_entry who) may.sender).field (rewrite_by changes)
    (outer_index out + 7) (outer_index out + 7)
places_are Ann p may ready pt marker timestamp payload changes plain shift = record {
  first = place_at Ann p may _ pt marker timestamp payload (rewrite_by changes) plain shift ready.first (takes_in p.sealing 1 1 _ refl ready.one);
  second = place_at Ann p may _ pt marker timestamp payload (rewrite_by changes) plain shift ready.first
      (takes_behind p.sealing (first_of Ann) p.ann.sending.sending.ssrc (outer_index p.ann.sending + 7) 2 1 _ refl (λ e. omega arith) ready.two);
}
places_are Bob p may ready pt marker timestamp payload changes plain shift = record {
  first = place_at Bob p may _ pt marker timestamp payload (rewrite_by changes) plain shift ready.first (takes_in p.sealing 0 2 _ refl ready.one);
  second = place_at Bob p may _ pt marker timestamp payload (rewrite_by changes) plain shift ready.first
      (takes_behind p.sealing (first_of Bob) p.bob.sending.sending.ssrc (outer_index p.bob.sending + 7) 2 2 _ refl (λ e. omega arith) ready.two);
}
places_are Cat p may ready pt marker timestamp payload changes plain shift = record {
  first = place_at Cat p may _ pt marker timestamp payload (rewrite_by changes) plain shift ready.first (takes_in p.sealing 0 3 _ refl ready.one);
  second = place_at Cat p may _ pt marker timestamp payload (rewrite_by changes) plain shift ready.first
      (takes_behind p.sealing (first_of Cat) p.cat.sending.sending.ssrc (outer_index p.cat.sending + 7) 1 3 _ refl (λ e. omega arith) ready.two);
}

two_more : (who : Who) (p : Parts) (c : Content) → length (sent_parts who p c).datagrams + 2 ≡ length p.datagrams + 3
two_more Ann p c = let count = length_push p.datagrams (sent_by (member_of Ann p) c) in omega arith
two_more Bob p c = let count = length_push p.datagrams (sent_by (member_of Bob p) c) in omega arith
two_more Cat p c = let count = length_push p.datagrams (sent_by (member_of Cat p) c) in omega arith

own_hears : (who : Who) (p : Parts) (may : MaySend who p) → IsReady who p → Hears p.heard (own_entry who).serial (out_of who p).sending.ssrc (out_of who p).sealed
own_hears who p may ready = subst (λ (s : ℕ). Hears p.heard (own_entry who).serial s (out_of who p).sealed) (sym may.ssrc) ready.hears

forwarded_is : (who : Who) (p : Parts) (may : MaySend who p) (ready : IsReady who p) (pt : ℕ) (marker : Bool) (timestamp : ℕ) (payload : List ℕ) (changes : Changes) (n : ℕ)
    → IsPlain pt timestamp payload
    → IsShift (rewrite_by changes) → n ≡ length p.datagrams + 1
    → IsForwarded who (sent_parts who p (content_at pt marker timestamp payload)) n (rewrite_by changes) (view_more who (view_of p) (out_of who p).sending.ssrc (outer_index (out_of who p)))
forwarded_is Ann p may ready pt marker timestamp payload changes n plain shift number =
    let c = content_at pt marker timestamp payload in
    let out = p.ann.sending in
    let few = may.sender.few in
    let free = free_outer out may.sender.is.outer (omega arith) in
    let places = places_are Ann p may ready pt marker timestamp payload changes plain shift in record {
      datagram = sent_by (member_of Ann p) c;
      found = last_datagram p.datagrams (sent_by (member_of Ann p) c) n number;
      header = sent_header out c;
      inner = sent_inner out c;
      block = nothing_kept;
      field = (field_spells out (own_entry Ann) may.sender).field;
      heard = heard_more p.heard 0 out.sending.ssrc (outer_index out);
      taken_as = taken_is p.heard out (big_bytes 16 1) (own_entry Ann) pt marker timestamp payload may.sender refl plain (own_hears Ann p may ready) free.free;
      first = outer_index out + 7;
      second = outer_index out + 7;
      places = places;
      view_is = ap (λ (k : ℕ). record (view_more Ann (view_of p) out.sending.ssrc (outer_index out)) { made = k }) (two_more Ann p c);
    }
forwarded_is Bob p may ready pt marker timestamp payload changes n plain shift number =
    let c = content_at pt marker timestamp payload in
    let out = p.bob.sending in
    let few = may.sender.few in
    let free = free_outer out may.sender.is.outer (omega arith) in
    let places = places_are Bob p may ready pt marker timestamp payload changes plain shift in record {
      datagram = sent_by (member_of Bob p) c;
      found = last_datagram p.datagrams (sent_by (member_of Bob p) c) n number;
      header = sent_header out c;
      inner = sent_inner out c;
      block = nothing_kept;
      field = (field_spells out (own_entry Bob) may.sender).field;
      heard = heard_more p.heard 1 out.sending.ssrc (outer_index out);
      taken_as = taken_is p.heard out (big_bytes 16 2) (own_entry Bob) pt marker timestamp payload may.sender refl plain (own_hears Bob p may ready) free.free;
      first = outer_index out + 7;
      second = outer_index out + 7;
      places = places;
      view_is = ap (λ (k : ℕ). record (view_more Bob (view_of p) out.sending.ssrc (outer_index out)) { made = k }) (two_more Bob p c);
    }
forwarded_is Cat p may ready pt marker timestamp payload changes n plain shift number =
    let c = content_at pt marker timestamp payload in
    let out = p.cat.sending in
    let few = may.sender.few in
    let free = free_outer out may.sender.is.outer (omega arith) in
    let places = places_are Cat p may ready pt marker timestamp payload changes plain shift in record {
      datagram = sent_by (member_of Cat p) c;
      found = last_datagram p.datagrams (sent_by (member_of Cat p) c) n number;
      header = sent_header out c;
      inner = sent_inner out c;
      block = nothing_kept;
      field = (field_spells out (own_entry Cat) may.sender).field;
      heard = heard_more p.heard 2 out.sending.ssrc (outer_index out);
      taken_as = taken_is p.heard out (big_bytes 16 3) (own_entry Cat) pt marker timestamp payload may.sender refl plain (own_hears Cat p may ready) free.free;
      first = outer_index out + 7;
      second = outer_index out + 7;
      places = places;
      view_is = ap (λ (k : ℕ). record (view_more Cat (view_of p) out.sending.ssrc (outer_index out)) { made = k }) (two_more Cat p c);
    }

send_forward : (who : Who) (p : Parts) (made n pt : ℕ) (marker : Bool) (timestamp : ℕ) (payload : List ℕ) (changes : Changes)
    → IsOrderly (state_of p) → IsBetween made (view_of p) → made + 3 ≤ most_datagrams
    → IsPlain pt timestamp payload → IsShift (rewrite_by changes) → n ≡ made + 1
    → Behind (turn by_cipher (state_of p) (Send (name_of who) pt marker timestamp payload no_options))
    (λ next. Behind (turn by_cipher next (Forward (name_of who) (n ∷ []) changes None)) (Has (IsBetween (made + 3))))
send_forward who p made n pt marker timestamp payload changes o b room plain shift number =
    let c = content_at pt marker timestamp payload in
    let may = may_send who p o in
    let ready = is_ready who p made b in
    let count : length p.datagrams ≡ made = b.count in
    let more = two_more who p c in
    send_is (λ next. Behind (turn by_cipher next (Forward (name_of who) (n ∷ []) changes None)) (Has (IsBetween (made + 3)))) who p pt marker timestamp payload (omega arith)
    (
    forward_is (IsBetween (made + 3)) who (sent_parts who p c) n changes _ (forwarded_is who p may ready pt marker timestamp payload changes n plain shift (omega arith)) (omega arith)
    (keeps_between who made (out_of who p).sending.ssrc (outer_index (out_of who p)) (view_of p) may.ssrc b)
    )

-- ---- a round

abbrev deliver_two : ℕ → Roles → List Script
deliver_two r roles =
    Deliver (3 * r + 2) roles.first ∷ Deliver (3 * r + 3) roles.second
    ∷ (cond (r % 5 == 4) (Deliver (3 * r + 2) roles.first ∷ []) [] ++ cond (r % 30 == 29) (Rekey roles.speaker (big_bytes 16 (1000 + r)) ∷ []) [])

abbrev round_with : ℕ → Roles → List Script
round_with r roles =
    Send roles.speaker (r % 64) (r % 2 == 1) (160 * r) (replicate (r % 40) (r % 256)) no_options ∷ Forward roles.speaker ((3 * r + 1) ∷ []) (changes_of r) None ∷ deliver_two r roles

abbrev roles_in : Who → Who → Who → Roles
roles_in a b c = record { speaker = name_of a; first = name_of b; second = name_of c }

last_lines : (a b : Who) (r : ℕ) (s : State) (again due : Bool) → Has (IsBetween (3 * r + 3)) s
    → Passes (Has (IsBetween (3 * r + 3))) s (cond again (Deliver (3 * r + 2) (name_of b) ∷ []) [] ++ cond due (Rekey (name_of a) (big_bytes 16 (1000 + r)) ∷ []) [])
last_lines a b r s false false h = h
last_lines a b r s false true h = rekey_has (IsBetween (3 * r + 3)) a s (1000 + r) h
last_lines a b r s true false h = deliver_has (IsBetween (3 * r + 3)) b s (3 * r + 1) (3 * r + 2) (omega arith) (λ v is. omega (arith, is.count)) h
last_lines a b r s true true h =
    behind_map (turn by_cipher s (Deliver (3 * r + 2) (name_of b))) (Has (IsBetween (3 * r + 3))) (λ next. Behind (turn by_cipher next (Rekey (name_of a) (big_bytes 16 (1000 + r)))) (Has (IsBetween (3 * r + 3))))
    (λ next g. rekey_has (IsBetween (3 * r + 3)) a next (1000 + r) g)
    (deliver_has (IsBetween (3 * r + 3)) b s (3 * r + 1) (3 * r + 2) (omega arith) (λ v is. omega (arith, is.count)) h)

four_lines : (a b c : Who) (r : ℕ) (s : State) → Has (IsBetween (3 * r + 3)) s → Passes (Has (IsBetween (3 * r + 3))) s (deliver_two r (roles_in a b c))
four_lines a b c r s h =
    let V : View → Type 0 = IsBetween (3 * r + 3) in
    let tail : List Script = cond (r % 5 == 4) (Deliver (3 * r + 2) (name_of b) ∷ []) [] ++ cond (r % 30 == 29) (Rekey (name_of a) (big_bytes 16 (1000 + r)) ∷ []) [] in
    behind_map (turn by_cipher s (Deliver (3 * r + 2) (name_of b))) (Has V) (λ next. Passes (Has V) next (Deliver (3 * r + 3) (name_of c) ∷ tail))
    (λ next g.
    behind_map (turn by_cipher next (Deliver (3 * r + 3) (name_of c))) (Has V) (λ then. Passes (Has V) then tail) (λ then k. last_lines a b r then (r % 5 == 4) (r % 30 == 29) k)
    (deliver_has V c next (3 * r + 2) (3 * r + 3) (omega arith) (λ v is. omega (arith, is.count)) g))
    (deliver_has V b s (3 * r + 1) (3 * r + 2) (omega arith) (λ v is. omega (arith, is.count)) h)

round_of : (a b c : Who) (r : ℕ) (p : Parts) → r < 1000 → IsOrderly (state_of p) → IsBetween (3 * r) (view_of p) → Passes (Has (IsBetween (3 * r + 3))) (state_of p) (round_with r (roles_in a b c))
round_of a b c r p few o is =
    let count = count_repeated (r % 40) (r % 256) in
    behind_map (turn by_cipher (state_of p) (Send (name_of a) (r % 64) (r % 2 == 1) (160 * r) (replicate (r % 40) (r % 256)) no_options))
    (λ next. Behind (turn by_cipher next (Forward (name_of a) ((3 * r + 1) ∷ []) (changes_of r) None)) (Has (IsBetween (3 * r + 3))))
    (λ next. Passes (Has (IsBetween (3 * r + 3))) next (Forward (name_of a) ((3 * r + 1) ∷ []) (changes_of r) None ∷ deliver_two r (roles_in a b c)))
    (λ next g. behind_map (turn by_cipher next (Forward (name_of a) ((3 * r + 1) ∷ []) (changes_of r) None)) (Has (IsBetween (3 * r + 3))) (λ then. Passes (Has (IsBetween (3 * r + 3))) then (deliver_two r (roles_in a b c))) (λ then h. four_lines a b c r then h) g)
    (
    send_forward a p (3 * r) (3 * r + 1) (r % 64) (r % 2 == 1) (160 * r) (replicate (r % 40) (r % 256)) (changes_of r) o is (omega arith)
    (record { low = omega arith; fits = omega arith; few = omega arith }) (record { seven = refl; none = refl }) refl
    )

by_role : (P : Roles → Type 0) (a b : Bool) {x y z : Roles} → P x → P y → P z → P (cond a x (cond b y z))
by_role P true b x y z = x
by_role P false true x y z = y
by_role P false false x y z = z

round_has : (r : ℕ) (s : State) → r < 1000 → IsOrderly s → Has (IsBetween (3 * r)) s → Passes (Has (IsBetween (3 * r + 3))) s (round_lines r)
round_has r s few o h =
    let P : Roles → Type 0 = λ roles. Passes (Has (IsBetween (3 * r + 3))) s (round_with r roles) in
    let at : (a b c : Who) → P (roles_in a b c) = λ a b c.
    subst (λ (x : State). Passes (Has (IsBetween (3 * r + 3))) x (round_with r (roles_in a b c))) (sym h.is) (round_of a b c r h.parts few (subst IsOrderly h.is o) h.view) in
    by_role P (r % 3 == 0) (r % 3 == 1) (at Ann Bob Cat) (at Bob Ann Cat) (at Cat Ann Bob)

-- ---- orderly all along

abbrev pub StaysOrderly : Type 0
StaysOrderly = (judge : Judge) (s : State) (octets : List ℕ) (lines : List Report) (next : State) → IsOrderly s → turn_at judge s (script_of octets) ≡ Goes lines next → IsOrderly next

behind_told : (t : Turn) (P Q : State → Type 0) → ((lines : List Report) (next : State) → t ≡ Goes lines next → P next → Q next) → Behind t P → Behind t Q
behind_told (Goes lines next) P Q f p = f lines next refl p
behind_told (Refused reason) P Q f p = absurd p
behind_told (Halts name) P Q f p = tt

abbrev Both : (State → Type 0) → State → Type 0
Both P s = P s × IsOrderly s

orderly_passes : (P : State → Type 0) (s : State) (lines : List Script) → OneSpelling → StaysOrderly → AllByRecursion IsLine lines → IsOrderly s → Passes P s lines → Passes (Both P) s lines
orderly_passes P s [] one stays are o p = (p, o)
orderly_passes P s (line ∷ lines) one stays are o p =
    let read = (one (script_text line) line).1 (are.0.spells, are.0.said) in
    behind_told (turn by_cipher s line) (λ next. Passes P next lines) (λ next. Passes (Both P) next lines)
    (λ told next is q.
    orderly_passes P next lines one stays are.1 (stays by_cipher s (script_text line) told next o (ap (turn_at by_cipher s) read ∙ is)) q) p

passes_map : (P Q : State → Type 0) (s : State) (lines : List Script) → ((x : State) → P x → Q x) → Passes P s lines → Passes Q s lines
passes_map P Q s [] f p = f s p
passes_map P Q s (line ∷ lines) f p =
    behind_map (turn by_cipher s line) (λ next. Passes P next lines) (λ next. Passes Q next lines) (λ next q. passes_map P Q next lines f q) p

between_begun : IsBetween 0 (view_of begun)
between_begun = record {
  count = refl;
  ann_heard = record { accepted = refl; room = refl };
  bob_heard = record { accepted = refl; room = refl };
  cat_heard = record { accepted = refl; room = refl };
  ann_gets = record { first = refl; second = refl; few = omega arith };
  bob_gets = record { first = refl; second = refl; few = omega arith };
  cat_gets = record { first = refl; second = refl; few = omega arith };
  ann_first = λ none. refl;
  bob_first = λ none. refl;
  cat_first = λ none. refl;
}

abbrev pub IsAt : ℕ → State → Type 0
IsAt r s = Has (IsBetween (3 * r)) s × IsOrderly s

pub keeps_rounds : OneSpelling → StaysOrderly → IsOrderly nobody → KeepsRounds IsAt
keeps_rounds one stays begins = record {
  first =
      orderly_passes (Has (IsBetween (3 * 0))) nobody opening one stays opening_is begins
      (passes_map (λ s. s ≡ state_of begun) (Has (IsBetween (3 * 0))) nobody opening (λ s is. record { parts = begun; is = is; view = between_begun }) opening_passes);
  next = λ r s few at.
      let same : 3 * r + 3 ≡ 3 * (r + 1) = omega arith in
      orderly_passes (Has (IsBetween (3 * (r + 1)))) s (round_lines r) one stays (round_is r few) at.1
      (subst (λ (n : ℕ). Passes (Has (IsBetween n)) s (round_lines r)) same (round_has r s few at.1 at.0));
}
