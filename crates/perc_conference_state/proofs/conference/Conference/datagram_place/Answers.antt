use Rattle.std.proofs.Common.{◌≡◌, ◌≢◌, ◌-◌, ℕ, List, Some, slice_get, arith}
use Rattle.std.proofs.lemmas.Bool.Decides.{nat_tests}
use Rattle.perc_run.specs.State.{Datagram, datagram_at}
use Rattle.perc_sent.proofs.Finding.{at_within}
use Rattle.perc_conference_state.proofs.conference.Conference.datagram_place.Goals as goal

at_number : (datagrams : List Datagram) (number : ℕ) (d : Datagram) → number ≢ 0 → slice_get datagrams (number - 1) ≡ Some d → datagram_at datagrams number ≡ Some d
at_number datagrams number d some at = grind (arith, nat_tests)

pub returns : goal.returns
returns c = λ s mirrors.
    let d = at_within s.datagrams (c.args.number - 1) (omega (arith, mirrors.datagrams.count, c.args.self.now.datagrams.ok.0)) in
    (d.0, at_number s.datagrams c.args.number d.0 c.if-number-eq0.false d.1, omega arith)
