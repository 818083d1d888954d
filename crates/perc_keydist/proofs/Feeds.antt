-- A feed, as the calls of a key distributor see it.
use Rattle.std.specs.Prelude.{Option, OnOk, Result, Ok, Err}
use Rattle.std.specs.Result.{result_err}
use Rattle.std.proofs.Common.{◌≡◌, ℕ, List, [], ◌++◌, refl, sym, subst, ◌∙◌, zero-add, arith}
use Rattle.perc_tunnel.specs.Decoding.{Decoding}
use Rattle.perc_tunnel.specs.Message.{TunnelMessage, UnsupportedVersion, spelling}
use Rattle.perc_tunnel.specs.Stream.{IsPart}
use Rattle.perc_keeper.specs.Lists.{Lists}
use Rattle.perc_keydist.specs.declared.desk.Desk.{Desk}
use Rattle.perc_keydist.specs.declared.fault.KdFault.{KdFault}
use Rattle.perc_keydist.specs.declared.fault.KdFault.TheVariants as fault
use Rattle.perc_keydist.specs.Answers.{Answers}
use Rattle.perc_keydist.specs.Desks.{IsDone, accepted_at}
use Rattle.perc_keydist.specs.Feeding.{Feeds, Reads, Stops, itself}
use Rattle.perc_keydist.specs.KeyDistributor.{EndsAt, FeedsSo, KeyDistributor, heard}

-- nothing is a part of a message
pub nothing_part : (held : List ℕ) → held ≡ [] → IsPart held
unfolding spelling
nothing_part held is = subst IsPart (sym is) (UnsupportedVersion 0, spelling (UnsupportedVersion 0), omega arith, omega arith, refl)

abbrev pub view : Desk → Decoding → Option KdFault → KeyDistributor
view desk decoding fault = record { profile = desk.profile; accepted = accepted_at desk; decoding = decoding; fault = fault }

ends_at : (desk : Desk) (d : Decoding) (f : Option KdFault) (octets : List ℕ) (messages : List TunnelMessage) (e : KdFault) (rest : List ℕ) (offset : ℕ)
    → Reads (d.held ++ octets) d.given messages rest offset → Stops e rest offset → EndsAt (view desk d f) octets messages e
ends_at desk d f octets messages (fault.Tunnel t) rest offset r w = record {
  rest = rest;
  wrong = record { each = r.each; octets = r.spelled; offset = refl; no_message = w.no_message; no_part = w.no_part };
  offset = w.offset_is ∙ r.offset_is;
  reason = w.reason;
}
ends_at desk d f octets messages (fault.Order type) rest offset r w = record { each = r.each; rest = rest; spelled = r.spelled }
ends_at desk d f octets messages fault.SpiSpent rest offset r w = record { each = r.each; rest = rest; spelled = r.spelled }
ends_at desk d f octets messages fault.KeyRepeated rest offset r w = record { each = r.each; rest = rest; spelled = r.spelled }
ends_at desk d f octets messages fault.Keeper rest offset r w = record { each = r.each; rest = rest; spelled = r.spelled }
ends_at desk d f octets messages fault.Handshake rest offset r w = record { each = r.each; rest = rest; spelled = r.spelled }
ends_at desk d f octets messages fault.Random rest offset r w = record { each = r.each; rest = rest; spelled = r.spelled }
ends_at desk d f octets messages fault.Memory rest offset r w = record { each = r.each; rest = rest; spelled = r.spelled }

pub feed_so : (desk new : Desk) (d now : Decoding) (f g : Option KdFault) (octets : List ℕ) (result : Result ℕ KdFault) (answers : Option Answers) (lists kept : Option Lists)
    (randoms rest : Option (List ℕ)) (before after : List ℕ) → g ≡ result_err result → OnOk result (IsPart now.held)
    → Feeds itself (d.held ++ octets) d.given now desk new result answers lists kept randoms rest before after
    → FeedsSo (view desk d f) octets result (view new now g) answers lists kept randoms rest before after
feed_so desk new d now f g octets (Ok left) answers lists kept randoms rest before after is part h = (
  h.0,
  record {
    no_fault = is;
    stream = record { each = h.1.0.each; octets = h.1.0.spelled; part = part };
    given = h.1.0.offset_is;
    decodes = h.1.1;
  },
  λ a l drawn tells has draws.
      subst (λ (n : ℕ). IsDone (heard a (view desk d f) l h.0 drawn) before after (accepted_at new) kept rest n) (zero-add left) (h.2 a l drawn 0 tells has draws),
)
feed_so desk new d now f g octets (Err e) answers lists kept randoms rest before after is part h = (
  h.0,
  (is, ends_at desk d f octets h.0 e h.1.0 h.1.1 h.1.2 h.1.3),
  λ a l drawn tells has draws. h.2 a l drawn 0 tells has draws,
)
