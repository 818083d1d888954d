-- The two ends of an SRTP stream and of an SRTCP stream: which index a packet takes, and why none is sealed or opened
-- (RFC 3711 sections 3.3, 3.4). The indices sealed or accepted before are given by a list.
use Rattle.std.specs.Prelude.{ℕ, ◌+◌, ◌-◌, ◌^◌, not, ◌==◌, nat_lt, if◌then◌else◌, List, length, Option, Some, None, Result, Ok, Err}
use Rattle.std.specs.Option.{ok_or, option_map}
use Rattle.byteorder.specs.Endian.{big_number}
use Rattle.perc_kdf.specs.Derivation.{KeyAndSalt}
use Rattle.perc_rtp.specs.Header.{Header, version}
use Rattle.perc_window.specs.Index.{nearest}
use Rattle.perc_window.specs.Replay.{greatest, freshness}
use Rattle.perc_window.specs.declared.window.Freshness.{Freshness}
use Rattle.perc_window.specs.declared.window.Freshness.TheVariants.{Fresh, Repeated as RepeatedIndex, TooOld as OldIndex}
use Rattle.perc_srtp.specs.Sealed.{index_word, unsealed_body, unsealed_rtcp}
use Rattle.perc_srtp.specs.declared.streams.TxFault.{TxFault}
use Rattle.perc_srtp.specs.declared.streams.TxFault.TheVariants as tx
use Rattle.perc_srtp.specs.declared.streams.RxFault.{RxFault}
use Rattle.perc_srtp.specs.declared.streams.RxFault.TheVariants as rx
use Rattle.perc_srtp.specs.declared.rtcp.RtcpFault.{RtcpFault}
use Rattle.perc_srtp.specs.declared.rtcp.RtcpFault.TheVariants as rtcp

-- ---- sealing

-- the index at which a packet with this SEQ is sealed behind these, or why it isn't
abbrev pub tx_index : List ℕ → ℕ → Result ℕ TxFault
tx_index before seq = at (nearest (greatest before) seq) where
  taken : ℕ → Freshness → Result ℕ TxFault
  taken index Fresh = Ok index
  taken index RepeatedIndex = Err (tx.NonceUsed index)
  taken index OldIndex = Err (tx.NonceUsed index)

  at : Option ℕ → Result ℕ TxFault
  at None = Err (tx.NoIndex seq)
  at (Some index) = taken index (freshness before index)

-- the same of a packet of `len` octets in room for `room`: the tag of 16 octets has to fit
abbrev pub sealing_index : List ℕ → ℕ → ℕ → ℕ → Result ℕ TxFault
sealing_index before seq len room = if nat_lt room (len + 16) then Err tx.Room else tx_index before seq

-- ---- opening

-- the index that a packet with this SEQ may be opened at behind these, or why it isn't
abbrev pub rx_index : List ℕ → ℕ → Result ℕ RxFault
rx_index before seq = at (nearest (greatest before) seq) where
  taken : ℕ → Freshness → Result ℕ RxFault
  taken index Fresh = Ok index
  taken index RepeatedIndex = Err rx.Repeated
  taken index OldIndex = Err rx.TooOld

  at : Option ℕ → Result ℕ RxFault
  at None = Err rx.TooOld
  at (Some index) = taken index (freshness before index)

-- the same of a packet with a body of this length: it has a tag of 16 octets
abbrev pub opening_index : List ℕ → ℕ → ℕ → Result ℕ RxFault
opening_index before seq body = if nat_lt body 16 then Err rx.Short else rx_index before seq

-- what opens at an index, with the index
abbrev pub opened_at : {F : Type 0} → F → ℕ → Option (List ℕ) → Result (ℕ × List ℕ) F
opened_at wrong_tag index found = ok_or (option_map (λ octets. (index, octets)) found) wrong_tag

-- Behind these accepted indices, what a packet with this header and this rest is opened to: its index and its body, or the
-- first refusal.
unfoldable pub rx_opened : KeyAndSalt → List ℕ → Header → List ℕ → Result (ℕ × List ℕ) RxFault
rx_opened keys before h rest = at (opening_index before h.seq (length rest)) where
  at : Result ℕ RxFault → Result (ℕ × List ℕ) RxFault
  at (Err fault) = Err fault
  at (Ok index) = opened_at rx.Tag index (unsealed_body keys index h rest)

-- ---- RTCP

-- the word at the end of a sealed RTCP packet
abbrev pub end_word : List ℕ → ℕ
end_word packet = big_number 4 (index_word packet)

-- the index that a sealed RTCP packet may be opened at behind these, or why it isn't: it has 8 octets, a tag of 16 and a
-- word of 4; its version is 2; and the bit E is set
abbrev pub rtcp_opening_index : List ℕ → List ℕ → Result ℕ RtcpFault
rtcp_opening_index before packet =
    if nat_lt (length packet) 28 then Err rtcp.Short
    else (if not (version packet == 2) then Err rtcp.Version
    else (if nat_lt (end_word packet) (2 ^ 31) then Err rtcp.Clear else taken (end_word packet - 2 ^ 31) (freshness before (end_word packet - 2 ^ 31)))) where
      taken : ℕ → Freshness → Result ℕ RtcpFault
      taken index Fresh = Ok index
      taken index RepeatedIndex = Err rtcp.Repeated
      taken index OldIndex = Err rtcp.TooOld

-- the same of a sealed RTCP packet: its index and the packet that was sealed, or the first refusal
unfoldable pub rtcp_opened : KeyAndSalt → List ℕ → List ℕ → Result (ℕ × List ℕ) RtcpFault
rtcp_opened keys before packet = at (rtcp_opening_index before packet) where
  at : Result ℕ RtcpFault → Result (ℕ × List ℕ) RtcpFault
  at (Err fault) = Err fault
  at (Ok index) = opened_at rtcp.Tag index (unsealed_rtcp keys index packet)
