-- The line `send`: a member's next double packet with its field (RFC 8723 section 5.1, RFC 8870 section 4.1), and what it adds to
-- the table of what was sent.
use Rattle.std.specs.Prelude.{ℕ, ◌+◌, Bool, nat_le, if◌then◌else◌, List, [], ◌∷◌, ◌++◌, length, Some}
use Rattle.std.specs.Option.{option_map, unwrap_or}
use Rattle.perc_rtp.specs.Media.{Content}
use Rattle.perc_double.specs.Double.{nothing_kept}
use Rattle.perc_outgoing.specs.Sending.{after_send, sent_datagram, sent_field, sent_header, sent_inner, sent_row, sent_wraps}
use Rattle.perc_script_line.specs.Script.{Options, extension_of}
use Rattle.perc_script_line.specs.declared.reason.Reason.TheVariants.{Limit}
use Rattle.perc_report_line.specs.Report.{WireUp}
use Rattle.perc_run.specs.State.{Datagram, State, Member, Turn, Goes, Refused, at_member, most_datagrams, with_member}

-- what the words of a send say
abbrev pub content_of : ℕ → Bool → ℕ → List ℕ → Options → Content
content_of pt marker timestamp payload options = record {
  pt = pt;
  marker = marker;
  timestamp = timestamp;
  csrcs = unwrap_or options.csrcs [];
  extension = option_map extension_of options.extension;
  payload = payload;
  pad = unwrap_or options.pad 0;
}

abbrev pub sent_by : Member → Content → Datagram
sent_by m content = record {
  octets = sent_datagram m.endpoint.sending content;
  unsealed = Some (record {
    header = sent_header m.endpoint.sending content;
    inner = sent_inner m.endpoint.sending content;
    block = nothing_kept;
    field = sent_field m.endpoint.sending;
  });
}

abbrev pub with_send : Member → Member
with_send m = record m { endpoint = record m.endpoint { sending = after_send m.endpoint.sending } }

abbrev pub sent_turn : State → Member → Content → Turn
sent_turn s m content =
    let number = length s.datagrams + 1 in
    if nat_le most_datagrams (length s.datagrams) then Refused Limit
    else Goes (WireUp number m.name (sent_by m content).octets ∷ [])
    (record s {
      members = with_member m.name with_send s.members;
      table = record { rows = s.table.rows ++ sent_row m.name number m.endpoint.sending content ∷ []; wraps = s.table.wraps ++ sent_wraps m.endpoint.sending };
      datagrams = s.datagrams ++ sent_by m content ∷ [];
    })

unfoldable pub send_turn : State → List ℕ → Content → Turn
send_turn s name content = at_member s name (λ m. sent_turn s m content)
