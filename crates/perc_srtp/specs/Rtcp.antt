-- The index in the word at the end of a sealed RTCP packet.
use Rattle.std.specs.Prelude.{ℕ, ◌-◌, ◌^◌, not, ◌==◌, nat_lt, if◌then◌else◌, List, length, Result, Ok, Err}
use Rattle.perc_rtp.specs.Header.{version}
use Rattle.perc_srtp.specs.Streams.{end_word}
use Rattle.perc_srtp.specs.declared.rtcp.RtcpFault.{RtcpFault}
use Rattle.perc_srtp.specs.declared.rtcp.RtcpFault.TheVariants.{Short, Version, Clear}

-- the index, whatever was accepted before
abbrev pub rtcp_index : List ℕ → Result ℕ RtcpFault
rtcp_index packet =
    if nat_lt (length packet) 28 then Err Short
    else (if not (version packet == 2) then Err Version
    else (if nat_lt (end_word packet) (2 ^ 31) then Err Clear else Ok (end_word packet - 2 ^ 31)))
