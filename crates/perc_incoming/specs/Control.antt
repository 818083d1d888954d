-- What a receiver makes of an RTCP packet (RFC 7714 section 9, RFC 3711 section 3.4). It has no stream of its own to refuse, and a
-- refusal changes nothing.
use Rattle.std.specs.Prelude.{◌≡◌, ℕ, List, ◌∷◌, Result, Ok, Err}
use Rattle.std.specs.Borrow.{Bor}
use Rattle.perc_kdf.specs.Derivation.{session_keys}
use Rattle.perc_kdf.specs.declared.Kind.TheVariants.{Srtcp}
use Rattle.perc_srtp.specs.Streams.{rtcp_opened}
use Rattle.perc_srtp.specs.declared.rtcp.RtcpFault.{RtcpFault}
use Rattle.perc_receiver.specs.Receiver.{Receiver}

abbrev pub after_control : Receiver → Result (ℕ × List ℕ) RtcpFault → Result (List ℕ) RtcpFault × Receiver
after_control r (Err fault) = (Err fault, r)
after_control r (Ok opened) = (Ok opened.1, record r { rtcp = opened.0 ∷ r.rtcp })

-- the plain packet, or the first refusal, and the receiver behind it
abbrev pub outcome_rtcp : Receiver → List ℕ → Result (List ℕ) RtcpFault × Receiver
outcome_rtcp r datagram = after_control r (rtcp_opened (session_keys r.server Srtcp) r.rtcp datagram)

-- This was answered: the plain packet is lent, or it was refused.
abbrev pub IsControl : Result (List ℕ) RtcpFault → Result (Bor (List ℕ)) RtcpFault → Type 0
IsControl (Ok plain) (Ok octets) = octets.now ≡ plain
IsControl (Ok plain) (Err fault) = ⊥
IsControl (Err fault) result = result ≡ Err fault
