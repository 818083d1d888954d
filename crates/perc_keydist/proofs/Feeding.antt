-- Messages that a decoder gives, and the run over them.
use Rattle.std.specs.List.{flat_map}
use Rattle.std.specs.Prelude.{Option, Some, None, IfSome, IsTrue, Result, Ok, Err}
use Rattle.std.proofs.Common.{◌≡◌, ℕ, ◌+◌, ◌<◌, Bool, false, List, [], ◌∷◌, ◌++◌, length, map, inl, inr, refl, sym, ap, subst, ◌∙◌, add-zero, append-nil, arith}
use Rattle.std.proofs.lemmas.List.{length-append}
use Rattle.std.proofs.lemmas.List.Elements.{All-nil, All-cons}
use Rattle.perc_tunnel.specs.declared.decoder.TunnelFault.{TunnelFault}
use Rattle.perc_tunnel.specs.declared.message.Message.{Message}
use Rattle.perc_tunnel.specs.Decoding.{Decoding, Decodes, IsFault}
use Rattle.perc_tunnel.specs.Message.{TunnelMessage, IsMessage, spelling}
use Rattle.perc_tunnel.specs.Stream.{IsPart}
use Rattle.perc_tunnel.specs.Told.{answered, content_of}
use Rattle.perc_tunnel.proofs.Written.{spelling-length}
use Rattle.perc_keeper.specs.Lists.{Lists}
use Rattle.perc_keydist.specs.declared.desk.Desk.{Desk}
use Rattle.perc_keydist.specs.declared.fault.KdFault.{KdFault}
use Rattle.perc_keydist.specs.declared.fault.KdFault.TheVariants as fault
use Rattle.perc_keydist.specs.Answers.{Answers}
use Rattle.perc_keydist.specs.Causes.{is_of_stream, is_stated, told_as}
use Rattle.perc_keydist.specs.Desks.{IsDone, IsRefused, accepted_at, count_of, state_at}
use Rattle.perc_keydist.specs.Distributing.{Heard, Fault, State, Turn, before, hear, quiet, run_of, step}
use Rattle.perc_keydist.specs.Feeding.{Feeds, IsEnded, Reads, Stops, count_next}

-- ---- one message

-- a turn, and nothing behind it
abbrev alone : Turn → Turn
alone t = before t t.fault (quiet t.state t.randoms)

single : (a : Answers) (s : State) (randoms : List ℕ) (m : TunnelMessage) → run_of a s (map Heard (m ∷ [])) randoms ≡ alone (hear a s randoms m s.accepted)
unfolding step
single a s randoms m = refl

single_done : (a : Answers) (s : State) (randoms : List ℕ) (m : TunnelMessage) (out after : List ℕ) (accepted : Option (List ℕ)) (lists : Option Lists) (rest : Option (List ℕ)) (left : ℕ)
    → IsDone (hear a s randoms m s.accepted) out after accepted lists rest left → IsDone (run_of a s (map Heard (m ∷ [])) randoms) out after accepted lists rest left
single_done a s randoms m out after accepted lists rest left is =
    let t = hear a s randoms m s.accepted in
    let same : run_of a s (map Heard (m ∷ [])) randoms ≡ before t None (quiet t.state t.randoms) =
    single a s randoms m ∙ ap (λ (o : Option Fault). before t o (quiet t.state t.randoms)) is.no_fault in
    subst (λ (u : Turn). IsDone u out after accepted lists rest left) (sym same) (record {
      no_fault = refl;
      replied = is.replied ∙ ap (λ (ms : List TunnelMessage). out ++ flat_map spelling ms) (sym (append-nil t.replies));
      accepts = is.accepts;
      keeps = is.keeps;
      draws = is.draws;
      leaves = is.leaves;
    })

single_ended : (a : Answers) (s : State) (randoms : List ℕ) (m : TunnelMessage) (e : KdFault) (f : Fault) (out after : List ℕ) (lists : Option Lists) (rest : Option (List ℕ))
    → told_as e ≡ Some f → after ≡ out → IsRefused (hear a s randoms m s.accepted) f lists rest → IsEnded (run_of a s (map Heard (m ∷ [])) randoms) e out after lists rest
single_ended a s randoms m e f out after lists rest told same is =
    let t = hear a s randoms m s.accepted in
    let turn : run_of a s (map Heard (m ∷ [])) randoms ≡ t =
    single a s randoms m ∙ ap (λ (o : Option Fault). before t o (quiet t.state t.randoms)) is.brought in
    subst (λ (u : Turn). IsEnded u e out after lists rest) (sym turn) (record {
      replied = same ∙ sym (append-nil out) ∙ ap (λ (ms : List TunnelMessage). out ++ flat_map spelling ms) (sym is.silent);
      brought = is.brought ∙ sym told;
      stands = λ _. (is.keeps, is.draws);
    })

-- ---- faults

no_stop : (e : KdFault) (rest : List ℕ) (offset : ℕ) → is_of_stream e ≡ false → Stops e rest offset
no_stop (fault.Tunnel f) rest offset h = absurd cc
no_stop (fault.Order type) rest offset h = tt
no_stop fault.SpiSpent rest offset h = tt
no_stop fault.KeyRepeated rest offset h = tt
no_stop fault.Keeper rest offset h = tt
no_stop fault.Handshake rest offset h = tt
no_stop fault.Random rest offset h = tt
no_stop fault.Memory rest offset h = tt

unstated : (e : KdFault) → is_of_stream e ≡ false → told_as e ≡ None → IsTrue (is_stated e) → ⊥
unstated (fault.Tunnel f) h none stated = absurd cc
unstated (fault.Order type) h none stated = absurd cc
unstated fault.SpiSpent h none stated = absurd cc
unstated fault.KeyRepeated h none stated = absurd cc
unstated fault.Keeper h none stated = absurd cc
unstated fault.Handshake h none stated = absurd cc
unstated fault.Random h none stated = absurd cc
unstated fault.Memory h none stated = absurd cc

-- ---- what is read

reads_none : (octets : List ℕ) (start : ℕ) → Reads octets start [] octets start
reads_none octets start = record { each = All-nil IsMessage; spelled = refl; offset_is = sym (add-zero start) }

reads_one : (m : TunnelMessage) (old new : Decoding) → Decodes old (Ok (Some m)) new → Reads old.held old.given (m ∷ []) new.held new.given
reads_one m old new h = record {
  each = All-cons IsMessage m [] h.1 (All-nil IsMessage);
  spelled = h.2 ∙ ap (λ (xs : List ℕ). xs ++ new.held) (sym (append-nil (spelling m)));
  offset_is = h.3 ∙ ap (λ (xs : List ℕ). old.given + length xs) (sym (append-nil (spelling m)));
}

pub reads_fewer : (m : TunnelMessage) (old new : Decoding) → Decodes old (Ok (Some m)) new → length new.held < length old.held
reads_fewer m old new h =
    let whole : length old.held ≡ length (spelling m) + length new.held = ap length h.2 ∙ length-append (spelling m) new.held in
    let some = spelling-length m h.1 in
    omega (arith, whole, some)

-- ---- the next message

module _ (old new : Decoding) (result : Result (Option Message) TunnelFault) (decodes : Decodes old (answered result) new) where
  module _ (message : Message) (is : result ≡ Ok (Some message)) where
    decoded : Decodes old (Ok (Some (content_of message))) new
    decoded = subst (λ (r : Result (Option Message) TunnelFault). Decodes old (answered r) new) is decodes

    pub next_fewer : length new.held < length old.held
    next_fewer = reads_fewer (content_of message) old new decoded

    pub next_done : (desk now : Desk) (b : Bool) (answers : Option Answers) (lists kept : Option Lists) (randoms rest : Option (List ℕ)) (out after : List ℕ)
        → ((a : Answers) (l : Lists) (drawn : List ℕ) (left : ℕ) → answers ≡ Some a → lists ≡ Some l → randoms ≡ Some drawn
        → IsDone (hear a (state_at desk l left) drawn (content_of message) (accepted_at desk)) out after (accepted_at now) kept rest (left + count_of b))
        → Feeds count_next old.held old.given new desk now (Ok (Some b)) answers lists kept randoms rest out after
    next_done desk now b answers lists kept randoms rest out after done = (
      content_of message ∷ [],
      (reads_one (content_of message) old new decoded, decoded.4),
      λ a l drawn left told known left_is.
          single_done a (state_at desk l left) drawn (content_of message) out after (accepted_at now) kept rest (left + count_of b) (done a l drawn left told known left_is),
    )

    pub next_failed : (desk now : Desk) (e : KdFault) (answers : Option Answers) (lists kept : Option Lists) (randoms rest : Option (List ℕ)) (out after : List ℕ)
        → is_of_stream e ≡ false → after ≡ out
        → ((a : Answers) (l : Lists) (drawn : List ℕ) (left : ℕ) → answers ≡ Some a → lists ≡ Some l → randoms ≡ Some drawn
        → IfSome (told_as e) (λ f. IsRefused (hear a (state_at desk l left) drawn (content_of message) (accepted_at desk)) f kept rest))
        → Feeds count_next old.held old.given new desk now (Err e) answers lists kept randoms rest out after
    next_failed desk now e answers lists kept randoms rest out after own same refused = by_case (told_as e) refl refused where
      by_case : (o : Option Fault) → told_as e ≡ o
          → ((a : Answers) (l : Lists) (drawn : List ℕ) (left : ℕ) → answers ≡ Some a → lists ≡ Some l → randoms ≡ Some drawn
          → IfSome o (λ f. IsRefused (hear a (state_at desk l left) drawn (content_of message) (accepted_at desk)) f kept rest))
          → Feeds count_next old.held old.given new desk now (Err e) answers lists kept randoms rest out after
      by_case None told h = (
        [],
        (old.held, old.given, reads_none old.held old.given, no_stop e old.held old.given own),
        λ a l drawn left _ _ _. record { replied = same ∙ sym (append-nil out); brought = sym told; stands = λ stated. absurd (unstated e own told stated) },
      )
      by_case (Some f) told h = (
        content_of message ∷ [],
        (new.held, new.given, reads_one (content_of message) old new decoded, no_stop e new.held new.given own),
        λ a l drawn left is known left_is.
            single_ended a (state_at desk l left) drawn (content_of message) e f out after kept rest told same (h a l drawn left is known left_is),
      )

  module _ (is : result ≡ Ok None) where
    none_decoded : Decodes old (Ok None) new
    none_decoded = subst (λ (r : Result (Option Message) TunnelFault). Decodes old (answered r) new) is decodes

    pub none_part : IsPart new.held
    none_part = subst (λ (d : Decoding). IsPart d.held) (sym none_decoded.2) none_decoded.1

    pub next_none : (desk : Desk) (answers : Option Answers) (lists : Option Lists) (randoms : Option (List ℕ)) (out : List ℕ)
        → Feeds count_next old.held old.given new desk desk (Ok None) answers lists lists randoms randoms out out
    next_none desk answers lists randoms out = (
      [],
      subst (λ (d : Decoding). Reads old.held old.given [] d.held d.given × (d.fault ≡ None)) (sym none_decoded.2) (reads_none old.held old.given, none_decoded.0),
      λ a l drawn left told known left_is.
          record { no_fault = refl; replied = sym (append-nil out); accepts = refl; keeps = known; draws = left_is; leaves = add-zero left },
    )

  module _ (f : TunnelFault) (is : result ≡ Err f) (ready : old.fault ≡ None) where
    wrong : IsFault old f
    wrong =
        let h : Decodes old (Err f) new = subst (λ (r : Result (Option Message) TunnelFault). Decodes old (answered r) new) is decodes in
        elim h.1 [ inl e ↦ absurd (let never = sym ready ∙ e in cc) | inr w ↦ w ]

    pub next_wrong : (desk : Desk) (answers : Option Answers) (lists : Option Lists) (randoms : Option (List ℕ)) (out : List ℕ)
        → Feeds count_next old.held old.given new desk desk (Err (fault.Tunnel f)) answers lists lists randoms randoms out out
    next_wrong desk answers lists randoms out = (
      [],
      (old.held, old.given, reads_none old.held old.given, record { offset_is = wrong.offset; no_message = wrong.no_message; no_part = wrong.no_part; reason = wrong.reason }),
      λ a l drawn left told known left_is. record { replied = sym (append-nil out); brought = refl; stands = λ _. (known, left_is) },
    )
