-- What is opened, at the place of its serial and among all.
use Rattle.std.proofs.Common.{◌≡◌, ℕ, ◌<◌, ◌≤◌, Bool, true, false, cond, not, leb, List, [], ◌∷◌, ◌++◌, length, get_or, set, map, Option, Some, None, is_some, Result, Ok, Err, inl, inr, refl, sym, ap, subst, ◌∙◌, arith}
use Rattle.std.specs.Prelude.{◌==◌, ◌&&◌, All, filter, find, nat_eq, IfSome}
use Rattle.std.specs.List.{list_any, position}
use Rattle.std.specs.Option.{is_none, option_map_or, unwrap_or}
use Rattle.std.proofs.lemmas.Bool.{cases_eq, cases_lt, cases_Bool}
use Rattle.std.proofs.lemmas.Bool.Decides.{nat_tests}
use Rattle.std.proofs.lemmas.List.{get_or_default, get_or-set_same, length-set}
use Rattle.std.proofs.lemmas.List.Elements.{All-append, All-cons, All-nil, All-weaker, filter_passes}
use Rattle.std.proofs.lemmas.List.Quantifiers.{position-Some}
use Rattle.std.proofs.lemmas.List.Folds.{find_past}
use Rattle.perc_kdf.specs.Derivation.{KeyAndSalt, session_keys}
use Rattle.perc_kdf.specs.declared.Kind.TheVariants.{Srtp, Srtcp}
use Rattle.perc_window.specs.Replay.{StandsFor as WindowStandsFor}
use Rattle.perc_rtp.specs.Header.{Header}
use Rattle.perc_rtp.specs.Reading.{packet_of}
use Rattle.perc_rtp.specs.Carried.{kind_of}
use Rattle.perc_rtp.specs.declared.carried.Carried.{Carried}
use Rattle.perc_rtp.specs.declared.carried.Carried.TheVariants as carried
use Rattle.perc_rtp.specs.declared.head.RtpFault.{RtpFault}
use Rattle.perc_ohb.specs.Reading.{block_of}
use Rattle.perc_ohb.specs.declared.block.Ohb.{Ohb}
use Rattle.perc_ohb.specs.declared.block.OhbFault.{OhbFault}
use Rattle.perc_ekt.specs.Field.{Field, field_of}
use Rattle.perc_ekt.specs.declared.field.FieldFault.{FieldFault}
use Rattle.perc_ekt.specs.declared.field.FieldFault.TheVariants as ekt
use Rattle.perc_srtp.specs.Streams.{rtcp_opened, rx_opened}
use Rattle.perc_srtp.specs.declared.streams.RxFault.{RxFault}
use Rattle.perc_srtp.specs.declared.streams.RxFault.TheVariants as rx
use Rattle.perc_srtp.specs.declared.rtcp.RtcpFault.{RtcpFault}
use Rattle.perc_keyset.specs.Set.{entry_of}
use Rattle.perc_keyset.specs.declared.Entry.{Entry}
use Rattle.perc_outer.specs.declared.fault.OuterFault.{OuterFault}
use Rattle.perc_outer.specs.declared.fault.OuterFault.TheVariants as out
use Rattle.perc_outer.specs.Streams.{OuterStream, accepted_of, is_full_for, is_of}
use Rattle.perc_outer.specs.Kept as outer
use Rattle.perc_outer.specs.Datagram.{Blocked, Reach, Reached, Refused, is_own, opened_packet, reached, reached_behind, reached_datagram, reached_opened, reached_packet}
use Rattle.perc_outer.proofs.Standing.{opened_by, opened_full, opened_short, refusing}
use Rattle.perc_distributor.specs.declared.fault.InboundFault.{InboundFault}
use Rattle.perc_distributor.specs.declared.fault.InboundFault.TheVariants as fault
use Rattle.perc_distributor.specs.declared.plain.Plain.{Plain}
use Rattle.perc_distributor.specs.Inbound.{Heard, Packet, heard_of, in_set, nothing_heard, taken, taken_control, taken_of, taken_reach, with_heard}
use Rattle.perc_distributor.specs.Kept.{holds, kept_of}
use Rattle.perc_distributor.specs.Rooms.{is_free, staying}
use Rattle.perc_distributor.specs.Tables.{Differ, IsPlaceOf}
use Rattle.perc_distributor.specs.Hearing.{AreOrigins, HasHeardAt, HasOpened, HasTaken, Hears, HearsBut, HearsStill, IsAnswer, IsFreeFor, IsHeard, IsNothing, IsPlaceFor}
use Rattle.perc_distributor.specs.Hearing.{IsSettled, IsSomePlain, Origin, SameHeard, Takes, TakesFrom, control_from, is_control, is_verified, media_from, opened_from, settled}
use Rattle.perc_distributor.proofs.Entries.{entry_in}
use Rattle.perc_distributor.proofs.PlaceLaws.{Fills, any_find, any_set_same, differ_new, differ_set, differ_staying, either_some, fills, find_new}
use Rattle.perc_distributor.proofs.PlaceLaws.{find_staying, found_past, found_with, holds_is, holds_other, holds_own, length_staying, none_any, set_twice}

-- ---- a refused datagram isn't one that ends in no block

field_not : (f : FieldFault) (o : OhbFault) → Refused (Rattle.perc_outer.specs.Datagram.field_refusal f) ≡ Refused (out.Ohb o) → ⊥
field_not ekt.NoField o is = absurd (cc)
field_not ekt.Type01 o is = absurd (cc)
field_not ekt.Length o is = absurd (cc)

packet_not : (f : RxFault) (o : OhbFault) → refusing (Err f) ≡ Err (out.Ohb o) → ⊥
packet_not rx.Short o is = absurd (cc)
packet_not rx.TooOld o is = absurd (cc)
packet_not rx.Repeated o is = absurd (cc)
packet_not rx.Tag o is = absurd (cc)

opens_not : (opened : Result (ℕ × List ℕ) RxFault) (o : OhbFault) → refusing opened ≡ Err (out.Ohb o) → ⊥
opens_not (Ok opened) o is = absurd (cc)
opens_not (Err f) o is = packet_not f o is

full_parts : (held many : Bool) → (not held && many) ≡ true → held ≡ false
full_parts true many is = absurd (cc)
full_parts false many is = refl

some_none : (found : Option OuterStream) → is_some found ≡ false → found ≡ None
some_none None is = refl
some_none (Some s) is = absurd (cc)

opened_not : (keys : KeyAndSalt) (streams : List OuterStream) (h : Header) (rest : List ℕ) (o : OhbFault) → opened_packet keys streams h rest ≡ Err (out.Ohb o) → ⊥
opened_not keys streams h rest o is =
    elim (cases_Bool (is_full_for streams h.ssrc)) [
      | inr room ↦ opens_not (rx_opened keys (accepted_of streams h.ssrc) h rest) o (sym (opened_by keys streams h rest room) ∙ is)
      | inl full ↦
          elim (cases_lt (length rest) 16) [
            | inl short ↦ let told = sym (opened_short keys streams h rest short) ∙ is in absurd (cc)
            | inr long ↦
                let new : find (is_of h.ssrc) streams ≡ None =
                some_none (find (is_of h.ssrc) streams) (sym (any_find (is_of h.ssrc) streams) ∙ full_parts (list_any (is_of h.ssrc) streams) (leb 256 (length streams)) full) in
                let told = sym (opened_full keys streams h rest long new full) ∙ is in
                absurd (cc)
          ]
    ]

behind_not : (h : Header) (field : Field) (index : ℕ) (parts : Result (List ℕ × Ohb) OhbFault) (o : OhbFault) → reached_behind h field index parts ≡ Refused (out.Ohb o) → ⊥
behind_not h field index (Ok parts) o is = absurd (cc)
behind_not h field index (Err f) o is = absurd (cc)

by_opened : (keys : KeyAndSalt) (streams : List OuterStream) (h : Header) (rest : List ℕ) (field : Field) (opened : Result (ℕ × List ℕ) OuterFault) (o : OhbFault)
    → opened_packet keys streams h rest ≡ opened → reached_opened h field opened ≡ Refused (out.Ohb o) → ⊥
by_opened keys streams h rest field (Ok opened) o opens is = behind_not h field opened.0 (block_of opened.1) o is
by_opened keys streams h rest field (Err f) o opens is = let same : f ≡ out.Ohb o = cc in opened_not keys streams h rest o (opens ∙ ap Err same)

by_own : (keys : KeyAndSalt) (streams : List OuterStream) (field : Field) (h : Header) (rest : List ℕ) (own : Bool) (o : OhbFault)
    → cond own (Refused out.OwnStream) (reached_opened h field (opened_packet keys streams h rest)) ≡ Refused (out.Ohb o) → ⊥
by_own keys streams field h rest true o is = absurd (cc)
by_own keys streams field h rest false o is = by_opened keys streams h rest field (opened_packet keys streams h rest) o refl is

by_packet : (keys : KeyAndSalt) (own : Option ℕ) (streams : List OuterStream) (field : Field) (read : Result (Header × List ℕ) RtpFault) (o : OhbFault)
    → reached_packet keys own streams field read ≡ Refused (out.Ohb o) → ⊥
by_packet keys own streams field (Ok read) o is = by_own keys streams field read.0 read.1 (is_own own read.0.ssrc) o is
by_packet keys own streams field (Err f) o is = absurd (cc)

by_field : (keys : KeyAndSalt) (own : Option ℕ) (streams : List OuterStream) (parts : Result (List ℕ × Field) FieldFault) (o : OhbFault)
    → reached_datagram keys own streams parts ≡ Refused (out.Ohb o) → ⊥
by_field keys own streams (Ok parts) o is = by_packet keys own streams parts.1 (packet_of parts.0) o is
by_field keys own streams (Err f) o is = field_not f o is

pub reached_not : (keys : KeyAndSalt) (own : Option ℕ) (streams : List OuterStream) (datagram : List ℕ) (o : OhbFault) → reached keys own streams datagram ≡ Refused (out.Ohb o) → ⊥
unfolding reached
reached_not keys own streams datagram o is = by_field keys own streams (field_of datagram) o is

-- ---- what is taken, by what is opened of an entry

-- What is opened was verified, or changes nothing.
same_either : (b : Bool) (set : List Entry) (heard : List Heard) (step : Result Packet InboundFault × Heard) → is_verified step.0 ≡ b
    → settled set heard step ≡ (step.0, cond b (with_heard set heard step.1) heard)
same_either b set heard step is = ap (λ (v : Bool). (step.0, cond v (with_heard set heard step.1) heard)) is

outer_refused : (set : List Entry) (heard : List Heard) (e : Entry) (h : Heard) (f : OuterFault) → ((o : OhbFault) → Refused f ≡ Refused (out.Ohb o) → ⊥)
    → (Err (fault.Outer f), heard) ≡ settled set heard (media_from e h (Refused f))
outer_refused set heard e h out.NoField not_block = refl
outer_refused set heard e h out.EktType not_block = refl
outer_refused set heard e h out.EktLength not_block = refl
outer_refused set heard e h (out.Rtp f) not_block = refl
outer_refused set heard e h out.OwnStream not_block = refl
outer_refused set heard e h out.OuterShort not_block = refl
outer_refused set heard e h out.OuterOld not_block = refl
outer_refused set heard e h out.OuterRepeated not_block = refl
outer_refused set heard e h out.StreamLimit not_block = refl
outer_refused set heard e h out.OuterTag not_block = refl
outer_refused set heard e h (out.Ohb o) not_block = absurd (not_block o refl)

media_settled : (set : List Entry) (heard : List Heard) (e : Entry) (reach : Reach) → ((o : OhbFault) → reach ≡ Refused (out.Ohb o) → ⊥)
    → taken_reach set heard e reach ≡ settled set heard (media_from e (heard_of heard e.serial) reach)
media_settled set heard e (Refused f) not_block = outer_refused set heard e (heard_of heard e.serial) f not_block
media_settled set heard e (Blocked ssrc index f) not_block = refl
media_settled set heard e (Reached o) not_block = refl

control_settled : (set : List Entry) (heard : List Heard) (e : Entry) (opened : Result (ℕ × List ℕ) RtcpFault)
    → taken_control set heard e opened ≡ settled set heard (control_from e (heard_of heard e.serial) opened)
control_settled set heard e (Ok opened) = refl
control_settled set heard e (Err f) = refl

-- what is answered where nothing is opened
abbrev pub by_kind : List Entry → List Heard → Option Bool → Option Entry → List ℕ → Result Packet InboundFault × List Heard
by_kind set heard None entry datagram = (Err fault.NotMedia, heard)
by_kind set heard (Some rtcp) None datagram = (Err fault.NoAssociation, heard)
by_kind set heard (Some rtcp) (Some e) datagram = settled set heard (opened_from e (heard_of heard e.serial) rtcp datagram)

of_kind : (set : List Entry) (heard : List Heard) (kind : Carried) (entry : Option Entry) (datagram : List ℕ)
    → taken_of set heard kind entry datagram ≡ by_kind set heard (is_control kind) entry datagram
of_kind set heard carried.Dtls entry datagram = refl
of_kind set heard carried.Other entry datagram = refl
of_kind set heard carried.Rtp None datagram = refl
of_kind set heard carried.Rtcp None datagram = refl
of_kind set heard carried.Rtp (Some e) datagram =
    media_settled set heard e (reached (session_keys e.client Srtp) None (heard_of heard e.serial).streams datagram)
    (reached_not (session_keys e.client Srtp) None (heard_of heard e.serial).streams datagram)
of_kind set heard carried.Rtcp (Some e) datagram = control_settled set heard e (rtcp_opened (session_keys e.client Srtcp) (heard_of heard e.serial).rtcp datagram)

pub taken_as : (set : List Entry) (heard : List Heard) (from datagram : List ℕ) → taken set heard from datagram ≡ by_kind set heard (is_control (kind_of datagram)) (entry_of set from) datagram
unfolding taken
taken_as set heard from datagram = of_kind set heard (kind_of datagram) (entry_of set from) datagram

-- ---- the place for a serial

free_holds : (o : Option ℕ) (t : ℕ) → o ≡ None → option_map_or (λ s. s == t) o false ≡ false
free_holds None t is = refl
free_holds (Some s) t is = absurd (cc)

pub others_there : (kept : List Origin) (serial at t : ℕ) (d : Origin) → IsPlaceFor kept serial at → (serial ≡ t → ⊥) → holds t (get_or kept at d) ≡ false
others_there kept serial at t d (inl p) apart = holds_other (get_or kept at d).serial serial t (holds_is (get_or kept at d).serial serial (p.holds_it d)) apart
others_there kept serial at t d (inr f) apart = free_holds (get_or kept at d).serial t (f.free d)

pub nothing_same : (k : Origin) (h : Heard) → IsNothing k → (h.streams ≡ []) × (h.rtcp ≡ []) → IsHeard k h
nothing_same k h nothing none = record {
  streams = subst (λ (ss : List OuterStream). outer.StandsFor k.streams ss) (sym none.0) nothing.streams;
  rtcp = subst (λ (is : List ℕ). WindowStandsFor k.rtcp is) (sym none.1) nothing.rtcp;
}

pub heard_there : (kept : List Origin) (serial at : ℕ) → IsPlaceOf kept serial at → HasHeardAt kept serial at
heard_there kept serial at p = λ heard d hears. subst (λ (o : Option Origin). SameHeard o (heard_of heard serial)) (p.found d) (hears.each serial)

-- ---- something of the same serial is written there

-- the facts of it
pub record Writes (kept : List Origin) (serial at : ℕ) (was now : Origin) : Type 0 where
  pub place : IsPlaceFor kept serial at
  pub is : was ≡ get_or kept at was
  pub same : now.serial ≡ was.serial

same_there : (kept : List Origin) (serial at : ℕ) (was now d : Origin) → at < length kept → Writes kept serial at was now → now.serial ≡ (get_or kept at d).serial
same_there kept serial at was now d within w = w.same ∙ ap (λ (k : Origin). k.serial) (w.is ∙ get_or_default kept at was d within)

in_range : (kept : List Origin) (serial at : ℕ) → IsPlaceFor kept serial at → at < length kept
in_range kept serial at (inl p) = p.in_range
in_range kept serial at (inr f) = f.in_range

pub writes_origins : (kept : List Origin) (serial at : ℕ) (was now : Origin) → Writes kept serial at was now → AreOrigins kept → AreOrigins (set kept at now)
writes_origins kept serial at was now w are =
    let same = same_there kept serial at was now now (in_range kept serial at w.place) w in
    record {
      size = length-set kept at now ∙ are.size;
      differ = differ_set kept at now same are.differ;
      free = any_set_same is_free kept at now (ap (λ (o : Option ℕ). is_none o) same) ∙ are.free;
    }

pub writes_place : (kept : List Origin) (serial at : ℕ) (was now : Origin) → Writes kept serial at was now → IsPlaceFor kept serial at → IsPlaceFor (set kept at now) serial at
writes_place kept serial at was now w (inl p) =
    let its : holds serial now ≡ true = ap (λ (o : Option ℕ). option_map_or (λ s. s == serial) o false) (same_there kept serial at was now was p.in_range w) ∙ p.holds_it was in
    let there : (d : Origin) → get_or (set kept at now) at d ≡ now = λ (d : Origin). get_or-set_same kept at now d p.in_range in
    inl (record {
      in_range = rw (length-set kept at now) p.in_range;
      holds_it = λ d. ap (holds serial) (there d) ∙ its;
      found = λ d. p.written now its ∙ ap (λ (x : Origin). Some x) (sym (there d));
      written = λ m holding. ap (find (holds serial)) (set_twice kept at now m) ∙ p.written m holding;
    })
writes_place kept serial at was now w (inr f) =
    let free : now.serial ≡ None = same_there kept serial at was now was f.in_range w ∙ f.free was in
    let there : (d : Origin) → get_or (set kept at now) at d ≡ now = λ (d : Origin). get_or-set_same kept at now d f.in_range in
    inr (record {
      in_range = rw (length-set kept at now) f.in_range;
      none =
          find_past (holds serial) kept at now now (free_holds (get_or kept at now).serial serial (f.free now)) (free_holds now.serial serial free) ∙ f.none;
      free = λ d. ap (λ (k : Origin). k.serial) (there d) ∙ free;
    })

-- What was heard from others stands as before,
now_others : (kept : List Origin) (serial at t : ℕ) (was now : Origin) → Writes kept serial at was now → (serial ≡ t → ⊥) → kept_of (set kept at now) t ≡ kept_of kept t
now_others kept serial at t was now w apart =
    let within = in_range kept serial at w.place in
    let there = others_there kept serial at t now w.place apart in
    find_past (holds t) kept at now now there
    (ap (λ (o : Option ℕ). option_map_or (λ s. s == t) o false) (same_there kept serial at was now now within w) ∙ there)

pub writes_but : (kept : List Origin) (heard : List Heard) (serial at : ℕ) (was now : Origin) → Writes kept serial at was now → Hears kept heard → HearsBut serial (set kept at now) heard
writes_but kept heard serial at was now w hears =
    record { each = λ t apart. subst (λ (o : Option Origin). SameHeard o (heard_of heard t)) (sym (now_others kept serial at t was now w apart)) (hears.each t) }

-- and all does where what is written stands for the same.
own_still : (kept : List Origin) (heard : List Heard) (serial at : ℕ) (was now : Origin) → Writes kept serial at was now → Hears kept heard → IsHeard now (heard_of heard serial)
    → IsPlaceFor kept serial at → SameHeard (kept_of (set kept at now) serial) (heard_of heard serial)
own_still kept heard serial at was now w hears is (inl p) =
    let its : holds serial now ≡ true = ap (λ (o : Option ℕ). option_map_or (λ s. s == serial) o false) (same_there kept serial at was now was p.in_range w) ∙ p.holds_it was in
    subst (λ (o : Option Origin). SameHeard o (heard_of heard serial)) (sym (p.written now its)) is
own_still kept heard serial at was now w hears is (inr f) =
    let free : now.serial ≡ None = same_there kept serial at was now was f.in_range w ∙ f.free was in
    let none : kept_of (set kept at now) serial ≡ kept_of kept serial =
    find_past (holds serial) kept at now now (free_holds (get_or kept at now).serial serial (f.free now)) (free_holds now.serial serial free) in
    subst (λ (o : Option Origin). SameHeard o (heard_of heard serial)) (sym none) (hears.each serial)

pub writes_still : (kept : List Origin) (heard : List Heard) (serial at : ℕ) (was now : Origin) → Writes kept serial at was now → Hears kept heard → IsHeard now (heard_of heard serial)
    → Hears (set kept at now) heard
writes_still kept heard serial at was now w hears is = record {
  each = λ t.
      elim (cases_eq serial t) as (λ _. SameHeard (kept_of (set kept at now) t) (heard_of heard t)) [
        | inl same ↦
            subst (λ (q : ℕ). SameHeard (kept_of (set kept at now) q) (heard_of heard q)) same (own_still kept heard serial at was now w hears is w.place)
        | inr apart ↦ (writes_but kept heard serial at was now w hears).each t apart
      ];
}

-- ---- a free place is cleared

cleared_of : (kept : List Origin) (at t : ℕ) (now : Origin) → (get_or kept at now).serial ≡ None → now.serial ≡ None → kept_of (set kept at now) t ≡ kept_of kept t
cleared_of kept at t now free still = find_past (holds t) kept at now now (free_holds (get_or kept at now).serial t free) (free_holds now.serial t still)

-- the facts of it
pub record Clears (kept : List Origin) (at : ℕ) (was now : Origin) : Type 0 where
  pub at_is : position is_free kept ≡ Some at
  pub is : was ≡ get_or kept at was
  pub same : now.serial ≡ was.serial
  pub nothing : IsNothing now

free_serial : (o : Option ℕ) → is_none o ≡ true → o ≡ None
free_serial None free = refl
free_serial (Some t) free = absurd (cc)

clears_free : (kept : List Origin) (at : ℕ) (was now d : Origin) → Clears kept at was now → (get_or kept at d).serial ≡ None
clears_free kept at was now d c = free_serial (get_or kept at d).serial (position-Some is_free kept at d c.at_is).1

clears_none : (kept : List Origin) (at : ℕ) (was now : Origin) → Clears kept at was now → now.serial ≡ None
clears_none kept at was now c = c.same ∙ ap (λ (k : Origin). k.serial) c.is ∙ clears_free kept at was now was c

pub clears_origins : (kept : List Origin) (at : ℕ) (was now : Origin) → Clears kept at was now → AreOrigins kept → AreOrigins (set kept at now)
clears_origins kept at was now c are =
    let same = clears_none kept at was now c ∙ sym (clears_free kept at was now now c) in
    record {
      size = length-set kept at now ∙ are.size;
      differ = differ_set kept at now same are.differ;
      free = any_set_same is_free kept at now (ap (λ (o : Option ℕ). is_none o) same) ∙ are.free;
    }

pub clears_place : (kept : List Origin) (serial at : ℕ) (was now : Origin) → Clears kept at was now → kept_of kept serial ≡ None → IsFreeFor (set kept at now) serial at
clears_place kept serial at was now c none =
    let within : at < length kept = (position-Some is_free kept at now c.at_is).0 in
    record {
      in_range = rw (length-set kept at now) within;
      none = cleared_of kept at serial now (clears_free kept at was now now c) (clears_none kept at was now c) ∙ none;
      free = λ d. ap (λ (k : Origin). k.serial) (get_or-set_same kept at now d within) ∙ clears_none kept at was now c;
    }

pub clears_stands : (kept : List Origin) (at : ℕ) (was now : Origin) → Clears kept at was now → HearsStill kept (set kept at now)
clears_stands kept at was now c = λ heard hears. record {
  each = λ t.
      subst (λ (o : Option Origin). SameHeard o (heard_of heard t)) (sym (cleared_of kept at t now (clears_free kept at was now now c) (clears_none kept at was now c))) (hears.each t);
}

pub clears_heard : (kept : List Origin) (serial at : ℕ) (was now : Origin) → Clears kept at was now → kept_of kept serial ≡ None → HasHeardAt (set kept at now) serial at
clears_heard kept serial at was now c none = λ heard d hears.
    let within : at < length kept = (position-Some is_free kept at now c.at_is).0 in
    let nothing : kept_of (set kept at now) serial ≡ None = cleared_of kept at serial now (clears_free kept at was now now c) (clears_none kept at was now c) ∙ none in
    subst (λ (k : Origin). IsHeard k (heard_of heard serial)) (sym (get_or-set_same kept at now d within))
    (nothing_same now (heard_of heard serial) c.nothing (subst (λ (o : Option Origin). SameHeard o (heard_of heard serial)) nothing (hears.each serial)))

-- ---- what was heard becomes a serial's

-- the facts of it
pub record Settles (entries : List Entry) (kept : List Origin) (serial at : ℕ) (was now : Origin) : Type 0 where
  pub few : length entries ≤ 64
  pub member : in_set entries serial ≡ true
  pub place : IsPlaceFor kept serial at
  pub is : was ≡ get_or kept at was
  pub held : now ≡ record was { serial = Some serial }

settles_serial : (entries : List Entry) (kept : List Origin) (serial at : ℕ) (was now : Origin) → Settles entries kept serial at was now → now.serial ≡ Some serial
settles_serial entries kept serial at was now s = ap (λ (k : Origin). k.serial) s.held

differ_held : (kept : List Origin) (serial at : ℕ) (now : Origin) → IsPlaceFor kept serial at → now.serial ≡ Some serial → Differ kept → Differ (set kept at now)
differ_held kept serial at now (inl p) its differ = differ_set kept at now (its ∙ sym (holds_is (get_or kept at now).serial serial (p.holds_it now))) differ
differ_held kept serial at now (inr f) its differ = differ_new kept at serial now its differ (none_any kept serial f.none)

found_held : (kept : List Origin) (serial at : ℕ) (now : Origin) → IsPlaceFor kept serial at → now.serial ≡ Some serial → kept_of (set kept at now) serial ≡ Some now
found_held kept serial at now (inl p) its = p.written now (holds_own now.serial serial its)
found_held kept serial at now (inr f) its = find_new (holds serial) kept at now f.none (holds_own now.serial serial its) f.in_range

pub settles_origins : (entries : List Entry) (kept : List Origin) (serial at : ℕ) (was now : Origin) (after : List Origin) → Settles entries kept serial at was now → AreOrigins kept
    → after ≡ map (staying entries) (set kept at now) → AreOrigins after
unfolding Fills
settles_origins entries kept serial at was now after s are is =
    let mid : List Origin = set kept at now in
    let size : length (map (staying entries) mid) ≡ 65 = length_staying (in_set entries) mid ∙ length-set kept at now ∙ are.size in
    let differ : Differ (map (staying entries) mid) = differ_staying (in_set entries) mid (differ_held kept serial at now s.place (settles_serial entries kept serial at was now s) are.differ) in
    let each : (t : ℕ) → list_any (holds t) (map (staying entries) mid) ≡ true → in_set entries t ≡ true = λ (t : ℕ). λ (any : list_any (holds t) (map (staying entries) mid) ≡ true).
    either_some (in_set entries t) (kept_of mid t)
    (ap (λ (k : Option Origin). is_some k) (sym (find_staying (in_set entries) mid t)) ∙ sym (any_find (holds t) (map (staying entries) mid)) ∙ any) in
    subst AreOrigins (sym is) (record {
      size = size;
      differ = differ;
      free =
          elim (cases_Bool (list_any is_free (map (staying entries) mid))) [
            | inl some ↦ some
            | inr none ↦
                let most : length (map (staying entries) mid) ≤ length entries = fills entries (map (staying entries) mid) differ each none in
                let few = s.few in
                absurd (omega arith)
          ];
    })

heard_either : (b : Bool) (t : ℕ) (k : Option Origin) (x : Option Heard) → SameHeard k (unwrap_or x (nothing_heard t)) → SameHeard (cond b k None) (unwrap_or (cond b x None) (nothing_heard t))
heard_either true t k x same = same
heard_either false t k x same = (refl, refl)

-- which test of serials what is kept beside the new passes
abbrev pub passes : List Entry → ℕ → ℕ → Bool
passes entries serial t = in_set entries t && not (t == serial)

passes_own : (entries : List Entry) (serial t : ℕ) → serial ≡ t → passes entries serial t ≡ false
passes_own entries serial t same = grind (arith, nat_tests)

passes_other : (entries : List Entry) (serial t : ℕ) → (serial ≡ t → ⊥) → passes entries serial t ≡ in_set entries t
passes_other entries serial t apart = grind (arith, nat_tests)

settles_own : (entries : List Entry) (kept : List Origin) (serial at : ℕ) (was now : Origin) (heard : List Heard) (h : Heard)
    → Settles entries kept serial at was now → h.serial ≡ serial → IsHeard was h
    → SameHeard (kept_of (map (staying entries) (set kept at now)) serial) (heard_of (with_heard entries heard h) serial)
settles_own entries kept serial at was now heard h s its is =
    let kept_is : kept_of (map (staying entries) (set kept at now)) serial ≡ Some now =
    find_staying (in_set entries) (set kept at now) serial
    ∙ ap (λ (b : Bool). cond b (kept_of (set kept at now) serial) None) s.member
    ∙ found_held kept serial at now s.place (settles_serial entries kept serial at was now s) in
    let heard_is : heard_of (with_heard entries heard h) serial ≡ h =
    ap (λ (x : Option Heard). unwrap_or x (nothing_heard serial)) (found_with (λ (x : Heard). x.serial) (passes entries h.serial) heard h serial its (passes_own entries h.serial serial its)) in
    rw (kept_is, heard_is) (subst (λ (k : Origin). IsHeard k h) (sym s.held) (record { streams = is.streams; rtcp = is.rtcp }))

settles_other : (entries : List Entry) (kept : List Origin) (serial at t : ℕ) (was now : Origin) (heard : List Heard) (h : Heard) → Settles entries kept serial at was now → h.serial ≡ serial
    → HearsBut serial kept heard → (serial ≡ t → ⊥) → SameHeard (kept_of (map (staying entries) (set kept at now)) t) (heard_of (with_heard entries heard h) t)
settles_other entries kept serial at t was now heard h s its but apart =
    let other : h.serial ≡ t → ⊥ = λ (same : h.serial ≡ t). apart (sym its ∙ same) in
    let still : kept_of (set kept at now) t ≡ kept_of kept t =
    find_past (holds t) kept at now now (others_there kept serial at t now s.place apart) (holds_other now.serial serial t (settles_serial entries kept serial at was now s) apart) in
    let kept_is : kept_of (map (staying entries) (set kept at now)) t ≡ cond (in_set entries t) (kept_of kept t) None =
    find_staying (in_set entries) (set kept at now) t ∙ ap (λ (o : Option Origin). cond (in_set entries t) o None) still in
    let heard_is : heard_of (with_heard entries heard h) t ≡ unwrap_or (cond (in_set entries t) (find (λ x. x.serial == t) heard) None) (nothing_heard t) =
    ap (λ (x : Option Heard). unwrap_or x (nothing_heard t))
    (found_past (λ (x : Heard). x.serial) (passes entries h.serial) heard h t other ∙ ap (λ (b : Bool). cond b (find (λ x. x.serial == t) heard) None) (passes_other entries h.serial t other)) in
    rw (kept_is, heard_is) (heard_either (in_set entries t) t (kept_of kept t) (find (λ x. x.serial == t) heard) (but.each t apart))

pub settles : (entries : List Entry) (kept : List Origin) (serial at : ℕ) (was now : Origin) (after : List Origin) → Settles entries kept serial at was now
    → after ≡ map (staying entries) (set kept at now) → IsSettled entries serial kept at after
settles entries kept serial at was now after s is = λ heard h d its but heard_at.
    let within = in_range kept serial at s.place in
    let own : IsHeard was h = subst (λ (k : Origin). IsHeard k h) (get_or_default kept at d was within ∙ sym s.is) heard_at in
    subst (λ (ks : List Origin). Hears ks (with_heard entries heard h)) (sym is) (record {
      each = λ t.
          elim (cases_eq serial t) as (λ _. SameHeard (kept_of (map (staying entries) (set kept at now)) t) (heard_of (with_heard entries heard h) t)) [
            | inl same ↦
                subst (λ (q : ℕ). SameHeard (kept_of (map (staying entries) (set kept at now)) q) (heard_of (with_heard entries heard h) q)) same
                (settles_own entries kept serial at was now heard h s its own)
            | inr apart ↦ settles_other entries kept serial at t was now heard h s its but apart
          ];
    })

-- ---- one datagram

answer_verified : (step : Result Packet InboundFault) (result : Result (Unit {0}) InboundFault) (p : Plain) → IsAnswer step result p → is_verified result ≡ is_verified step
answer_verified (Ok packet) result p is = ap is_verified is.0
answer_verified (Err f) result p is = ap is_verified is

of_serial : (heard : List Heard) (serial : ℕ) → (heard_of heard serial).serial ≡ serial
of_serial [] serial = refl
of_serial (x ∷ heard) serial = found_serial (nat_eq x.serial serial) x serial (find (λ y. y.serial == serial) heard) refl (of_serial heard serial) where
  found_serial : (b : Bool) (x : Heard) (serial : ℕ) (rest : Option Heard) → nat_eq x.serial serial ≡ b → (unwrap_or rest (nothing_heard serial)).serial ≡ serial
      → (unwrap_or (cond b (Some x) rest) (nothing_heard serial)).serial ≡ serial
  found_serial true x serial rest is tail = grind (arith, nat_tests)
  found_serial false x serial rest is tail = tail

opened_serial : (e : Entry) (h : Heard) (rtcp : Bool) (octets : List ℕ) → (opened_from e h rtcp octets).1.serial ≡ h.serial
opened_serial e h true octets = refl
opened_serial e h false octets = refl

-- What wasn't verified changed nothing.
media_same : (e : Entry) (h : Heard) (reach : Reach) → is_verified (media_from e h reach).0 ≡ false → (media_from e h reach).1 ≡ h
media_same e h (Refused f) not_so = refl
media_same e h (Blocked ssrc index f) not_so = absurd (cc)
media_same e h (Reached o) not_so = absurd (cc)

control_same : (e : Entry) (h : Heard) (opened : Result (ℕ × List ℕ) RtcpFault) → is_verified (control_from e h opened).0 ≡ false → (control_from e h opened).1 ≡ h
control_same e h (Ok opened) not_so = absurd (cc)
control_same e h (Err f) not_so = refl

opened_same : (e : Entry) (h : Heard) (rtcp : Bool) (octets : List ℕ) → is_verified (opened_from e h rtcp octets).0 ≡ false → (opened_from e h rtcp octets).1 ≡ h
opened_same e h true octets not_so = control_same e h (rtcp_opened (session_keys e.client Srtcp) h.rtcp octets) not_so
opened_same e h false octets not_so = media_same e h (reached (session_keys e.client Srtp) None h.streams octets) not_so

-- the facts of a datagram that was opened at its place
pub record Opens (kept : List Origin) (e : Entry) (rtcp : Bool) (octets : List ℕ) (at : ℕ) (was now : Origin) (result : Result (Unit {0}) InboundFault) (p : Plain) : Type 0 where
  pub writes : Writes kept e.serial at was now
  pub heard : HasHeardAt kept e.serial at
  pub opened : (h : Heard) → IsHeard was h → HasOpened (opened_from e h rtcp octets) result p now

opens : (kept : List Origin) (heard : List Heard) (e : Entry) (rtcp : Bool) (octets : List ℕ) (at : ℕ) (was now : Origin) (result : Result (Unit {0}) InboundFault) (p : Plain)
    → Opens kept e rtcp octets at was now result p → Hears kept heard → HasOpened (opened_from e (heard_of heard e.serial) rtcp octets) result p now
opens kept heard e rtcp octets at was now result p o hears =
    o.opened (heard_of heard e.serial) (subst (λ (k : Origin). IsHeard k (heard_of heard e.serial)) (sym o.writes.is) (o.heard heard was hears))

pub taken_verified : (entries : List Entry) (kept : List Origin) (heard : List Heard) (e : Entry) (rtcp : Bool) (octets : List ℕ) (at : ℕ) (was now : Origin) (result : Result (Unit {0}) InboundFault) (p : Plain) (after : List Origin)
    → Opens kept e rtcp octets at was now result p → is_verified result ≡ true → IsSettled entries e.serial (set kept at now) at after → Hears kept heard
    → HasTaken (settled entries heard (opened_from e (heard_of heard e.serial) rtcp octets)) result p after
taken_verified entries kept heard e rtcp octets at was now result p after o yes_so s hears =
    let h = heard_of heard e.serial in
    let step : Result Packet InboundFault × Heard = opened_from e h rtcp octets in
    let its = opens kept heard e rtcp octets at was now result p o hears in
    let within = in_range kept e.serial at o.writes.place in
    let so : is_verified step.0 ≡ true = sym (answer_verified step.0 result p its.answer) ∙ yes_so in
    subst (λ (t : Result Packet InboundFault × List Heard). HasTaken t result p after) (sym (same_either true entries heard step so))
    (record {
      answer = its.answer;
      keeps = s heard step.1 now (opened_serial e h rtcp octets ∙ of_serial heard e.serial) (writes_but kept heard e.serial at was now o.writes hears)
          (subst (λ (k : Origin). IsHeard k step.1) (sym (get_or-set_same kept at now now within)) its.keeps);
    })

pub taken_not : (entries : List Entry) (kept : List Origin) (heard : List Heard) (e : Entry) (rtcp : Bool) (octets : List ℕ) (at : ℕ) (was now : Origin) (result : Result (Unit {0}) InboundFault) (p : Plain)
    → Opens kept e rtcp octets at was now result p → is_verified result ≡ false → Hears kept heard
    → HasTaken (settled entries heard (opened_from e (heard_of heard e.serial) rtcp octets)) result p (set kept at now)
taken_not entries kept heard e rtcp octets at was now result p o not_so hears =
    let h = heard_of heard e.serial in
    let step : Result Packet InboundFault × Heard = opened_from e h rtcp octets in
    let its = opens kept heard e rtcp octets at was now result p o hears in
    let so : is_verified step.0 ≡ false = sym (answer_verified step.0 result p its.answer) ∙ not_so in
    subst (λ (t : Result Packet InboundFault × List Heard). HasTaken t result p (set kept at now)) (sym (same_either false entries heard step so))
    (record {
      answer = its.answer;
      keeps = writes_still kept heard e.serial at was now o.writes hears (subst (λ (x : Heard). IsHeard now x) (opened_same e h rtcp octets so) its.keeps);
    })

-- ---- all places are free

abbrev pub AreFree : List Origin → Type 0
AreFree [] = Unit {0}
AreFree (k ∷ kept) = (k.serial ≡ None) × AreFree kept

pub free_push : (kept : List Origin) (k : Origin) → AreFree kept → k.serial ≡ None → AreFree (kept ++ k ∷ [])
free_push [] k free is = (is, tt)
free_push (x ∷ kept) k free is = (free.0, free_push kept k free.1 is)

free_differ : (kept : List Origin) → AreFree kept → Differ kept
free_differ [] free = tt
free_differ (k ∷ kept) free = (subst (λ (o : Option ℕ). IfSome o (λ s. list_any (holds s) kept ≡ false)) (sym free.0) tt, free_differ kept free.1)

free_none : (kept : List Origin) (serial : ℕ) → AreFree kept → kept_of kept serial ≡ None
free_none [] serial free = refl
free_none (k ∷ kept) serial free =
    ap (λ (b : Bool). cond b (Some k) (kept_of kept serial)) (free_holds k.serial serial free.0) ∙ free_none kept serial free.1

free_some : (kept : List Origin) → AreFree kept → 0 < length kept → list_any is_free kept ≡ true
free_some [] free some = absurd (omega arith)
free_some (k ∷ kept) free some =
    let first : is_free k ≡ true = ap (λ (o : Option ℕ). is_none o) free.0 in
    grind (arith, first)

pub free_origins : (kept : List Origin) → AreFree kept → length kept ≡ 65 → AreOrigins kept
free_origins kept free size = record { size = size; differ = free_differ kept free; free = free_some kept free (omega arith) }

pub free_hears : (kept : List Origin) → AreFree kept → Hears kept []
free_hears kept free =
    record { each = λ serial. subst (λ (o : Option Origin). SameHeard o (nothing_heard serial)) (sym (free_none kept serial free)) (refl, refl) }

-- ---- any datagram

pub taken_none : (entries : List Entry) (kept : List Origin) (from datagram : List ℕ) (p : Plain) → is_control (kind_of datagram) ≡ None → Takes kept entries from datagram (Err fault.NotMedia) p kept
taken_none entries kept from datagram p none = λ heard hears.
    subst (λ (t : Result Packet InboundFault × List Heard). HasTaken t (Err fault.NotMedia) p kept)
    (sym (taken_as entries heard from datagram ∙ ap (λ (k : Option Bool). by_kind entries heard k (entry_of entries from) datagram) none)) (record { answer = refl; keeps = hears })

pub taken_stranger : (entries : List Entry) (kept : List Origin) (from datagram : List ℕ) (rtcp : Bool) (p : Plain) → is_control (kind_of datagram) ≡ Some rtcp → entry_of entries from ≡ None
    → Takes kept entries from datagram (Err fault.NoAssociation) p kept
taken_stranger entries kept from datagram rtcp p kind none = λ heard hears.
    subst (λ (t : Result Packet InboundFault × List Heard). HasTaken t (Err fault.NoAssociation) p kept)
    (sym (taken_as entries heard from datagram ∙ λ i. by_kind entries heard (kind i) (none i) datagram)) (record { answer = refl; keeps = hears })

pub taken_of_entry : (entries : List Entry) (kept after : List Origin) (from datagram : List ℕ) (rtcp : Bool) (e : Entry) (result : Result (Unit {0}) InboundFault) (p : Plain)
    → is_control (kind_of datagram) ≡ Some rtcp → entry_of entries from ≡ Some e → TakesFrom kept entries e rtcp datagram result p after → Takes kept entries from datagram result p after
taken_of_entry entries kept after from datagram rtcp e result p kind found takes = λ heard hears.
    subst (λ (t : Result Packet InboundFault × List Heard). HasTaken t result p after)
    (sym (taken_as entries heard from datagram ∙ λ i. by_kind entries heard (kind i) (found i) datagram)) (takes heard hears)

-- ---- what stands there

pub answer_plain : (step : Result Packet InboundFault) (result : Result (Unit {0}) InboundFault) (p : Plain) → IsAnswer step result p → IsSomePlain result p
answer_plain (Ok packet) result p is = subst (λ (r : Result (Unit {0}) InboundFault). IsSomePlain r p) (sym is.0) (packet, is.1)
answer_plain (Err f) result p is = subst (λ (r : Result (Unit {0}) InboundFault). IsSomePlain r p) (sym is) tt

-- ---- what is kept behind it

kept_not : (b : Bool) (set : List Entry) (heard : List Heard) (h : Heard) → b ≡ false → cond b (with_heard set heard h) heard ≡ heard
kept_not true set heard h is = absurd (cc)
kept_not false set heard h is = refl

unchanged_by : (set : List Entry) (heard : List Heard) (kind : Option Bool) (entry : Option Entry) (datagram : List ℕ) → is_verified (by_kind set heard kind entry datagram).0 ≡ false
    → (by_kind set heard kind entry datagram).1 ≡ heard
unchanged_by set heard None entry datagram is = refl
unchanged_by set heard (Some rtcp) None datagram is = refl
unchanged_by set heard (Some rtcp) (Some e) datagram is =
    let step = opened_from e (heard_of heard e.serial) rtcp datagram in
    kept_not (is_verified step.0) set heard step.1 is

-- Where no tag verified, all is as it was.
pub unchanged : (set : List Entry) (heard : List Heard) (from datagram : List ℕ) → is_verified (taken set heard from datagram).0 ≡ false → (taken set heard from datagram).1 ≡ heard
unchanged set heard from datagram is =
    ap (λ (t : Result Packet InboundFault × List Heard). t.1) (taken_as set heard from datagram)
    ∙ unchanged_by set heard (is_control (kind_of datagram)) (entry_of set from) datagram
    (ap (λ (t : Result Packet InboundFault × List Heard). is_verified t.0) (sym (taken_as set heard from datagram)) ∙ is)

kept_in : (b : Bool) (set : List Entry) (heard : List Heard) (e : Entry) (h : Heard) → b ≡ true → h.serial ≡ e.serial → in_set set e.serial ≡ true
    → All (λ x. in_set set x.serial ≡ true) (cond b (with_heard set heard h) heard)
kept_in false set heard e h is its member = absurd (cc)
kept_in true set heard e h is its member =
    let test : Heard → Bool = λ x. in_set set x.serial && not (x.serial == h.serial) in
    All-append (λ (x : Heard). in_set set x.serial ≡ true) (filter test heard) (h ∷ [])
    (All-weaker (λ (x : Heard). test x ≡ true) (λ (x : Heard). in_set set x.serial ≡ true) (λ x passed. first_true (in_set set x.serial) (not (x.serial == h.serial)) passed) (filter test heard) (filter_passes test heard))
    (All-cons (λ (x : Heard). in_set set x.serial ≡ true) h [] (ap (in_set set) its ∙ member) (All-nil (λ (x : Heard). in_set set x.serial ≡ true)))
  where
    first_true : (a b : Bool) → (a && b) ≡ true → a ≡ true
    first_true true b is = refl
    first_true false b is = absurd (cc)

only_by : (set : List Entry) (heard : List Heard) (from : List ℕ) (kind : Option Bool) (entry : Option Entry) (datagram : List ℕ) → entry_of set from ≡ entry
    → is_verified (by_kind set heard kind entry datagram).0 ≡ true → All (λ x. in_set set x.serial ≡ true) (by_kind set heard kind entry datagram).1
only_by set heard from None entry datagram found is = absurd (cc)
only_by set heard from (Some rtcp) None datagram found is = absurd (cc)
only_by set heard from (Some rtcp) (Some e) datagram found is =
    let h = heard_of heard e.serial in
    let step = opened_from e h rtcp datagram in
    kept_in (is_verified step.0) set heard e step.1 is (opened_serial e h rtcp datagram ∙ of_serial heard e.serial) (entry_in set from e found)

-- Once one has, only serials of the set are kept.
pub kept_of_set : (set : List Entry) (heard : List Heard) (from datagram : List ℕ) → is_verified (taken set heard from datagram).0 ≡ true
    → All (λ x. in_set set x.serial ≡ true) (taken set heard from datagram).1
kept_of_set set heard from datagram is =
    subst (λ (t : Result Packet InboundFault × List Heard). All (λ x. in_set set x.serial ≡ true) t.1) (sym (taken_as set heard from datagram))
    (only_by set heard from (is_control (kind_of datagram)) (entry_of set from) datagram refl
    (ap (λ (t : Result Packet InboundFault × List Heard). is_verified t.0) (sym (taken_as set heard from datagram)) ∙ is))
