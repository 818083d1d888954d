-- Each line keeps that no two packets were sealed alike.
use Rattle.std.proofs.Common.{◌≡◌, ℕ, ◌+◌, ◌^◌, ◌<◌, ◌≤◌, inl, inr, Bool, true, false, cond, not, List, [], ◌∷◌, ◌++◌, length, get_or, Option, Some, None, Result, Ok, Err, refl, sym, ap, subst, ◌∙◌, arith}
use Rattle.std.specs.List.{filter_map, list_all, list_any}
use Rattle.std.specs.Option.{is_some, option_map, option_map_or}
use Rattle.std.specs.Prelude.{◌*◌, ◌==◌, ◌||◌, nat_le, nat_lt, All, Contains}
use Rattle.std.specs.Str.{bytes_eq}
use Rattle.std.proofs.lemmas.Bool.{leb-false}
use Rattle.std.proofs.lemmas.List.{append-nil, map-append}
use Rattle.std.proofs.lemmas.List.Elements.{All-append, All-cons, All-contains, All-contains_itself, All-map, All-nil, All-push, All-weaker}
use Rattle.std.proofs.lemmas.List.Quantifiers.{all_pairs_push}
use Rattle.perc_base.specs.declared.profile.Profile.{Profile}
use Rattle.perc_contexts.proofs.ReceivingLaws.{found_of}
use Rattle.perc_kdf.specs.Derivation.{IsMaster, KeyAndSalt, session_keys}
use Rattle.perc_kdf.specs.declared.Kind.TheVariants.{Srtp, Srtcp}
use Rattle.perc_ohb.specs.Rewriting.{IsRewrite, Rewrite}
use Rattle.perc_rtp.specs.Carried.{kind_of}
use Rattle.perc_rtp.specs.Media.{Content}
use Rattle.perc_rtp.specs.declared.carried.Carried.{Carried}
use Rattle.perc_rtp.specs.declared.carried.Carried.TheVariants as carried
use Rattle.perc_srtp.specs.Sealed.{rtcp_iv, rtcp_ssrc}
use Rattle.perc_keyset.specs.Set.{absorbed, is_of}
use Rattle.perc_keyset.specs.declared.Entry.{Entry}
use Rattle.perc_keyset.specs.declared.Op.TheVariants.{Remove}
use Rattle.perc_octets.specs.Octets.{AreOctets}
use Rattle.perc_receiver.specs.Table.{IsSecret, Secret, secret_of}
use Rattle.perc_receiver.specs.Receiver.{Receiver}
use Rattle.perc_receiver.specs.Foreign.{is_foreign}
use Rattle.perc_outgoing.specs.Sending.{Outgoing, after_rtcp, after_take, sent_row, sent_wraps}
use Rattle.perc_outgoing.specs.History.{AreOtherSeals, EndToEnd, HopByHop, Seal, inner_seal, outer_seal, rtcp_seal}
use Rattle.perc_outgoing.proofs.Nonces.{GoesOn}
use Rattle.perc_outgoing.proofs.Standing.{free_outer}
use Rattle.perc_endpoint.specs.Endpoint.{Endpoint, after_grant, after_rekey, grant_answer, rekey_answer}
use Rattle.perc_endpoint.specs.declared.fault.GrantFault.{GrantFault}
use Rattle.perc_incoming.specs.Control.{outcome_rtcp}
use Rattle.perc_distributor.specs.Inbound.{Packet}
use Rattle.perc_distributor.specs.Forwarding.{media_step, most_octets}
use Rattle.perc_word.proofs.Spelling.{bytes_from}
use Rattle.perc_script_line.specs.Script as script
use Rattle.perc_script_line.specs.Script.{Changes, IsScript, Script, fits}
use Rattle.perc_script_line.specs.declared.reason.Reason.TheVariants as reason
use Rattle.perc_report_line.specs.Report as report
use Rattle.perc_report_line.specs.Report.{Report}
use Rattle.perc_run.specs.State.{Datagram, Member, State, Turn, Goes, Halts, Refused, Unsealed, datagram_at, has_name, member_named, most_datagrams, nobody, with_member}
use Rattle.perc_run.specs.Keys.{ekt_turn, grant_turn, granted, rekey_turn, rekeyed, with_grant, with_rekey}
use Rattle.perc_run.specs.Joining.{are_used, gone, is_crowded, is_known, join_turn, join_with, joined, leave_turn, new_member, newest, pair_of as pair_in}
use Rattle.perc_run.specs.Sending.{content_of, send_turn, sent_by, sent_turn, with_send}
use Rattle.perc_run.specs.Control.{control_by, control_turn, rtcp_turn, with_control}
use Rattle.perc_run.specs.Hostile.{added, alter_datagram, alter_turn, altered, at_datagram, graft_datagrams, graft_turn, grafted, inject_turn, made, no_graft, reseal_datagram, reseal_for, reseal_turn, resealed, sealed_anew, unsealed_anew}
use Rattle.perc_run.specs.Forwarding.{are_present, associations_of, count_recipients, forward_by, forward_turn, forwarded, numbered, packet_in, reported_takings, rewrite_by, takings}
use Rattle.perc_run.specs.Delivering.{answer_line, by_cipher, control_line, deliver_turn, delivered, heard_turn, with_receiver}
use Rattle.perc_run.specs.Turn.{first_turn, form_turn, turn, turn_under}
use Rattle.perc_run.specs.Sound.{IsMember, IsSound, core_of}
use Rattle.perc_headline.specs.Headline.{Turns}
use Rattle.perc_headline.specs.Nonces.{control_sent, forward_seals, line_seals, sent_seals, step_seals}
use Rattle.perc_headline.proofs.Lookups.{IsFound, at_end, at_longer, at_place, changed, changed_all, contains_at, contains_map, found_by_name, place_of, two_places}
use Rattle.perc_headline.proofs.Sends.{IsMedia, said_media}
use Rattle.perc_headline.proofs.Facts.{Facts}
use Rattle.perc_headline.proofs.Lines.{Newcomer, all_others, join_line}
use Rattle.perc_headline.proofs.Sealing.{IsServed, PacketFits, rtcp_index, step_served}
use Rattle.perc_headline.proofs.Fitting.{Fits, HasMasters, TakingFits, UnsealedFits, altered_octets, batch_fits, control_fits, found_fits, grafted_octets}
use Rattle.perc_headline.proofs.Fitting.{made_fits, numbered_fit, opened_fit, pair_master, resealed_fits, sent_fits, step_out, takings_fit, words_change}
use Rattle.perc_headline.proofs.Clear.{AreApart, AreOtherPairs, HasOrigin, IsAhead, IsClear, IsEntryOf, IsKept, IsSealer, IsSending as IsSender, KeepsSending, Pair}
use Rattle.perc_headline.proofs.Clear.{Wire, clear_change, clear_less, clear_sent, clients_differ, goes_same, pair_of, pairs_kept, pairs_of, sent_pair, sides, wire_of}
use Rattle.perc_headline.proofs.Joined.{IsNewcomer, clear_joined, joined_wire}
use Rattle.perc_headline.proofs.Forwarded.{clear_datagrams, clear_step, with_kept}

-- ---- what is kept of control packets

-- An endpoint's next control packet isn't sealed so: its index is past those with this IV, whatever SSRC the packets have.
pub record IsControlAhead (o : Outgoing) (p : Seal) : Type 0 where
  pub past : (ssrc index : ℕ) → index < 2 ^ 31 → p.layer ≡ HopByHop → p.kind ≡ Srtcp → p.master ≡ o.client → p.iv_is ≡ rtcp_iv (session_keys p.master Srtcp).salt ssrc index
      → index < o.rtcp

-- A member is ahead of all that was sealed.
pub record IsControlSealer (done : List Seal) (m : Member) : Type 0 where
  pub ahead : All (IsControlAhead m.endpoint.sending) done

-- Both pairs of a member are masters.
pub record AreMasters (pair : Pair) : Type 0 where
  pub client : IsMaster pair.0
  pub server : IsMaster pair.1

-- No two packets were sealed alike, control packets among them, and none will be. All pairs are masters, so that what is sealed under them
-- is of octets.
pub record NeverTwice (w : Wire) (done : List Seal) : Type 0 where
  pub seals : IsClear w done
  pub masters : All AreMasters (pairs_of w.members)
  pub control : All (IsControlSealer done) w.members

-- so it is before the first line
pub never_nobody : NeverTwice (wire_of nobody) []
never_nobody = record {
  seals = record {
    pairs = record { others = λ i j d below within. absurd (omega arith); own = All-nil _ };
    sealers = All-nil (IsSealer []);
    entries = All-nil (IsEntryOf []);
    origins = All-nil (HasOrigin []);
    kept = All-nil (IsKept [] [] []);
    fits = All-nil Fits;
    apart = λ i j d below within. absurd (omega arith);
  };
  masters = All-nil AreMasters;
  control = All-nil (IsControlSealer []);
}

never_same : (w : Wire) (done : List Seal) → NeverTwice w done → NeverTwice w (done ++ [])
never_same w done never = subst (NeverTwice w) (sym (append-nil done)) never

-- ---- members change, and the rest stays

-- A change takes no RTCP index back, and keeps the client pair.
record KeepsControl (change : Member → Member) : Type 0 where
  goes : (m : Member) → m.endpoint.sending.rtcp ≤ (change m).endpoint.sending.rtcp
  client : (m : Member) → (change m).endpoint.sending.client ≡ m.endpoint.sending.client

control_after : (o n : Outgoing) (p : Seal) → o.rtcp ≤ n.rtcp → n.client ≡ o.client → IsControlAhead o p → IsControlAhead n p
control_after o n p goes client a = record {
  past = λ ssrc index few layer kind master is. let below = a.past ssrc index few layer kind (master ∙ client) is in omega arith;
}

control_changed : (done : List Seal) (name : List ℕ) (change : Member → Member) (m : Member) → KeepsControl change → IsControlSealer done m → IsControlSealer done (changed name change m)
control_changed done name change m keeps is = at (has_name name m) where
  at : (b : Bool) → IsControlSealer done (cond b (change m) m)
  at false = is
  at true = record {
    ahead = All-weaker (IsControlAhead m.endpoint.sending) (IsControlAhead (change m).endpoint.sending)
        (λ p. control_after m.endpoint.sending (change m).endpoint.sending p (keeps.goes m) (keeps.client m)) done is.ahead;
  }

control_members : (done : List Seal) (name : List ℕ) (change : Member → Member) (members : List Member) → KeepsControl change → All (IsControlSealer done) members
    → All (IsControlSealer done) (with_member name change members)
control_members done name change members keeps all =
    All-map (IsControlSealer done) (changed name change) members λ k d within. control_changed done name change (get_or members k d) keeps (all k d within)

never_change : (w : Wire) (done : List Seal) (name : List ℕ) (change : Member → Member) → KeepsSending change → NeverTwice w done
    → NeverTwice (record w { members = with_member name change w.members }) done
never_change w done name change keeps never = record {
  seals = clear_change w done name change keeps never.seals;
  masters = subst (All AreMasters) (sym (pairs_kept name change w.members keeps.pair)) never.masters;
  control = control_members done name change w.members (record { goes = λ m. (keeps.goes m).rtcp; client = keeps.client }) never.control;
}

never_datagrams : (w : Wire) (done : List Seal) (datagrams : List Datagram) → All Fits datagrams → NeverTwice w done → NeverTwice (record w { datagrams = datagrams }) done
never_datagrams w done datagrams fits never = record { seals = clear_datagrams w done datagrams fits never.seals; masters = never.masters; control = never.control }

never_push : (w : Wire) (done : List Seal) (d : Datagram) → Fits d → NeverTwice w done → NeverTwice (record w { datagrams = w.datagrams ++ d ∷ [] }) done
never_push w done d fits never = never_datagrams w done (w.datagrams ++ d ∷ []) (All-push Fits w.datagrams d never.seals.fits fits) never

-- a member's pairs are masters
own_masters : (w : Wire) (done : List Seal) (m : Member) → Contains w.members m → NeverTwice w done → AreMasters (pair_of m)
own_masters w done m there never = All-contains AreMasters (pairs_of w.members) (pair_of m) never.masters (contains_map pair_of w.members m there)

own_client : (w : Wire) (done : List Seal) (m : Member) → Contains w.members m → NeverTwice w done → m.endpoint.sending.client ≡ m.client
own_client w done m there never = (All-contains (IsSealer done) w.members m never.seals.sealers there).client

sending_master : (w : Wire) (done : List Seal) (m : Member) → Contains w.members m → NeverTwice w done → IsMaster m.endpoint.sending.client
sending_master w done m there never = subst IsMaster (sym (own_client w done m there never)) (own_masters w done m there never).client

-- and so are an entry's
entry_masters : (w : Wire) (done : List Seal) → NeverTwice w done → All HasMasters w.set
entry_masters w done never =
    All-weaker (IsEntryOf (pairs_of w.members)) HasMasters (λ e at.
    let two = All-contains AreMasters (pairs_of w.members) (e.client, e.server) never.masters (contains_at (pairs_of w.members) e.serial (e.client, e.server) at) in
    record { client = two.client; server = two.server }) w.set never.seals.entries

-- ---- a line

-- Where the line goes on, no two of these were sealed alike.
abbrev pub ClearBehind : List Seal → Turn → Type 0
ClearBehind done (Goes lines next) = NeverTwice (wire_of next) done
ClearBehind done (Refused reason) = Unit {0}
ClearBehind done (Halts name) = Unit {0}

at_found : (s : State) (name : List ℕ) (done : List Seal) (seals : Member → List Seal) (goes : Member → Turn) (found : Option Member) → member_named name s ≡ found
    → ((m : Member) → IsFound s.members name m → ClearBehind (done ++ seals m) (goes m))
    → ClearBehind (done ++ option_map_or seals found []) (option_map_or goes found (Refused reason.Name))
at_found s name done seals goes None e each = tt
at_found s name done seals goes (Some m) e each = each m (found_by_name s name m e)

-- a member of a name, where nothing is sealed
quiet_at : (s : State) (name : List ℕ) (done : List Seal) (goes : Member → Turn) (found : Option Member) → member_named name s ≡ found
    → ((m : Member) → IsFound s.members name m → ClearBehind done (goes m)) → ClearBehind done (option_map_or goes found (Refused reason.Name))
quiet_at s name done goes None e each = tt
quiet_at s name done goes (Some m) e each = each m (found_by_name s name m e)

-- ---- keys

ekt_by : (s : State) (key salt : List ℕ) (done : List Seal) (known full : Bool) → NeverTwice (wire_of s) done
    → ClearBehind done (cond known (Refused reason.Key) (cond full (Refused reason.Limit)
    (Goes (report.Ekt (length s.secrets + 1) ∷ []) (record s { secrets = s.secrets ++ record { spi = length s.secrets + 1; key = key; salt = salt } ∷ [] }))))
ekt_by s key salt done true full clear = tt
ekt_by s key salt done false true clear = tt
ekt_by s key salt done false false clear = clear

ekt_clear : (s : State) (key salt : List ℕ) (done : List Seal) → NeverTwice (wire_of s) done → ClearBehind done (ekt_turn s key salt)
unfolding ekt_turn
ekt_clear s key salt done clear = ekt_by s key salt done (list_any (λ x. bytes_eq x.key key) s.secrets) (nat_le 65535 (length s.secrets)) clear

take_goes : (o : Outgoing) (s : Secret) (key : List ℕ) → GoesOn o (after_take o s key)
take_goes o s key = record { ssrc = refl; next = omega arith; outer = λ high is. (high, is, omega arith); rtcp = omega arith }

grant_goes : (e : Endpoint) (s : Secret) (key : List ℕ) (answer : Result ℕ GrantFault)
    → GoesOn e.sending (after_grant e s key answer).sending × ((after_grant e s key answer).sending.client ≡ e.sending.client)
grant_goes e s key (Ok epoch) = (take_goes e.sending s key, refl)
grant_goes e s key (Err fault) = (goes_same e.sending, refl)

grant_keeps : (s : Secret) (key : List ℕ) → KeepsSending (with_grant s key)
grant_keeps s key = record {
  keeps = record { name = λ m. refl; ssrc = λ m. refl };
  pair = λ m. refl;
  goes = λ m. (grant_goes m.endpoint s key (grant_answer m.endpoint s key)).0;
  client = λ m. (grant_goes m.endpoint s key (grant_answer m.endpoint s key)).1;
}

rekey_goes : (e : Endpoint) (key : List ℕ) (answer : Result ℕ GrantFault)
    → GoesOn e.sending (after_rekey e key answer).sending × ((after_rekey e key answer).sending.client ≡ e.sending.client)
rekey_goes e key (Ok epoch) = (take_goes e.sending e.sending.secret key, refl)
rekey_goes e key (Err fault) = (goes_same e.sending, refl)

rekey_keeps : (key : List ℕ) → KeepsSending (with_rekey key)
rekey_keeps key = record {
  keeps = record { name = λ m. refl; ssrc = λ m. refl };
  pair = λ m. refl;
  goes = λ m. (rekey_goes m.endpoint key (rekey_answer m.endpoint key)).0;
  client = λ m. (rekey_goes m.endpoint key (rekey_answer m.endpoint key)).1;
}

receiver_keeps : (r : Receiver) → KeepsSending (with_receiver r)
receiver_keeps r = record {
  keeps = record { name = λ m. refl; ssrc = λ m. refl };
  pair = λ m. refl;
  goes = λ m. goes_same m.endpoint.sending;
  client = λ m. refl;
}

gone_keeps : KeepsSending gone
gone_keeps = record {
  keeps = record { name = λ m. refl; ssrc = λ m. refl };
  pair = λ m. refl;
  goes = λ m. goes_same m.endpoint.sending;
  client = λ m. refl;
}

grant_by : (s : State) (done : List Seal) (m : Member) (secret : Secret) (key : List ℕ) (answer : Result ℕ GrantFault) → NeverTwice (wire_of s) done → ClearBehind done (granted s m secret key answer)
grant_by s done m secret key (Err fault) clear = clear
grant_by s done m secret key (Ok epoch) clear = never_change (wire_of s) done m.name (with_grant secret key) (grant_keeps secret key) clear

grant_at : (s : State) (done : List Seal) (m : Member) (key : List ℕ) (secret : Option Secret) → NeverTwice (wire_of s) done
    → ClearBehind done (option_map_or (λ x. granted s m x key (grant_answer m.endpoint x key)) secret (Refused reason.Name))
grant_at s done m key None clear = tt
grant_at s done m key (Some secret) clear = grant_by s done m secret key (grant_answer m.endpoint secret key) clear

grant_clear : (s : State) (name key : List ℕ) (spi : ℕ) (done : List Seal) → NeverTwice (wire_of s) done → ClearBehind done (grant_turn s name spi key)
unfolding grant_turn
grant_clear s name key spi done clear =
    quiet_at s name done (λ m. option_map_or (λ x. granted s m x key (grant_answer m.endpoint x key)) (secret_of s.secrets spi) (Refused reason.Name)) (member_named name s) refl
    (λ m found. grant_at s done m key (secret_of s.secrets spi) clear)

rekey_by : (s : State) (done : List Seal) (m : Member) (key : List ℕ) (answer : Result ℕ GrantFault) → NeverTwice (wire_of s) done → ClearBehind done (rekeyed s m key answer)
rekey_by s done m key (Err fault) clear = clear
rekey_by s done m key (Ok epoch) clear = never_change (wire_of s) done m.name (with_rekey key) (rekey_keeps key) clear

rekey_clear : (s : State) (name key : List ℕ) (done : List Seal) → NeverTwice (wire_of s) done → ClearBehind done (rekey_turn s name key)
unfolding rekey_turn
rekey_clear s name key done clear =
    quiet_at s name done (λ m. rekeyed s m key (rekey_answer m.endpoint key)) (member_named name s) refl (λ m found. rekey_by s done m key (rekey_answer m.endpoint key) clear)

-- ---- join and leave

-- A pair that somebody has is no newcomer's.
unlike_new : (s : State) (done : List Seal) (m : Member) (pair : Pair) → IsClear (joined_wire s m) done → Contains (pairs_of s.members) pair → AreOtherPairs pair (pair_of m)
unlike_new s done m pair clear there =
    let pairs : List Pair = pairs_of s.members in
    let all : List Pair = pairs ++ pair_of m ∷ [] in
    let apart : AreApart all = subst AreApart (map-append pair_of s.members (m ∷ [])) clear.pairs in
    let old = place_of all there.0 pair (at_longer pairs (pair_of m ∷ []) there.0 pair (at_place pairs there.0 pair there.1 there.2)) in
    let new = place_of all (length pairs) (pair_of m) (at_end pairs (pair_of m)) in
    two_places AreOtherPairs all pair (pair_of m) there.0 (length pairs) apart.others there.1 new.0 old.1 new.1

new_ahead : (s : State) (done : List Seal) (m : Member) (p : Seal) → IsClear (joined_wire s m) done → m.endpoint.sending.client ≡ m.client → HasOrigin s.members p
    → IsControlAhead m.endpoint.sending p
new_ahead s done m p clear client origin = record {
  past = λ ssrc index few layer kind master is.
      let of = origin.pair layer in
      let other = unlike_new s done m of.pair clear of.there in
      let own : p.master ≡ m.client = master ∙ client in
      absurd (elim of.is [
        | inl theirs ↦ other.clients (sym theirs ∙ own)
        | inr theirs ↦ other.back (sym theirs ∙ own)
      ]);
}

never_joined : (s : State) (done : List Seal) (m : Member) → IsNewcomer s m → AreMasters (pair_of m) → NeverTwice (wire_of s) done → NeverTwice (joined_wire s m) done
never_joined s done m is masters never =
    let clear : IsClear (joined_wire s m) done = clear_joined s done m is never.seals in record {
      seals = clear;
      masters = subst (All AreMasters) (sym (map-append pair_of s.members (m ∷ []))) (All-push AreMasters (pairs_of s.members) (pair_of m) never.masters masters);
      control = All-push (IsControlSealer done) s.members m never.control (record {
        ahead = All-weaker (HasOrigin s.members) (IsControlAhead m.endpoint.sending) (λ p origin. new_ahead s done m p clear is.client origin) done never.seals.origins;
      });
    }

join_by : (turns : Turns) (s : State) (done : List Seal) (m : Member) (name : List ℕ) (ssrc : ℕ) (known used crowded : Bool) → m.name ≡ name → m.ssrc ≡ ssrc
    → m.endpoint.sending.client ≡ m.client → m.endpoint.sending.sending.ssrc ≡ m.ssrc → m.endpoint.sending.sending.ssrc < 2 ^ 32 → AreMasters (pair_of m)
    → is_known s name ssrc ≡ known → are_used s m.client m.server ≡ used → NeverTwice (wire_of s) done
    → ClearBehind done (cond known (Refused reason.Name) (cond used (Refused reason.Key) (cond crowded (Refused reason.Limit) (joined s m))))
join_by turns s done m name ssrc true used crowded name_is ssrc_is client sender few masters known unused clear = tt
join_by turns s done m name ssrc false true crowded name_is ssrc_is client sender few masters known unused clear = tt
join_by turns s done m name ssrc false false true name_is ssrc_is client sender few masters known unused clear = tt
join_by turns s done m name ssrc false false false name_is ssrc_is client sender few masters known unused clear =
    never_joined s done m (record { unused = unused; others = all_others name ssrc m s.members name_is ssrc_is known; client = client; ssrc = sender; fits = few }) masters clear

join_found : (turns : Turns) (s : State) (profile : Profile) (w : Newcomer) (done : List Seal) (found : Option Secret) → w.ssrc < 2 ^ 32 → AreMasters (pair_in w.client, pair_in w.server)
    → NeverTwice (wire_of s) done
    → ClearBehind done (join_with s profile w.name w.ssrc w.seq (pair_in w.client) (pair_in w.server) w.key found)
join_found turns s profile w done None few masters clear = tt
join_found turns s profile w done (Some secret) few masters clear =
    join_by turns s done (new_member s profile w.name w.ssrc w.seq (pair_in w.client) (pair_in w.server) secret w.key) w.name w.ssrc
    (is_known s w.name w.ssrc) (are_used s (pair_in w.client) (pair_in w.server)) (is_crowded s) refl refl refl refl few masters refl refl clear

join_clear : (turns : Turns) (s : State) (profile : Profile) (w : Newcomer) (done : List Seal) → IsScript (join_line w) → NeverTwice (wire_of s) done
    → ClearBehind done (join_turn s profile w.name w.ssrc w.seq w.client w.server w.key)
unfolding join_turn
join_clear turns s profile w done said clear =
    let most = said.1 in
    join_found turns s profile w done (newest s.secrets) (omega arith) (record { client = pair_master w.client said.3; server = pair_master w.server said.4 }) clear

removed : (w : Wire) (done : List Seal) (association : List ℕ) → NeverTwice w done → NeverTwice (record w { set = absorbed w.set (Remove association) }) done
unfolding absorbed
removed w done association clear =
    record { seals = clear_less w done (λ (e : Entry). not (is_of association e)) clear.seals; masters = clear.masters; control = clear.control }

leave_clear : (s : State) (name : List ℕ) (done : List Seal) → NeverTwice (wire_of s) done → ClearBehind done (leave_turn s name)
unfolding leave_turn
leave_clear s name done clear =
    quiet_at s name done _ (member_named name s) refl
    (λ m found. removed (record (wire_of s) { members = with_member m.name gone s.members }) done m.association (never_change (wire_of s) done m.name gone gone_keeps clear))

-- ---- send

-- A media packet's seal has no IV of a control packet.
media_ahead : (o : Outgoing) (p : Seal) → p.kind ≡ Srtp → IsControlAhead o p
media_ahead o p media = record { past = λ ssrc index few layer kind master is. let bad : Srtp ≡ Srtcp = sym media ∙ kind in absurd (cc) }

control_sent_on : (done : List Seal) (o : Outgoing) (n : Member) → IsControlSealer done n → IsControlSealer (done ++ sent_pair o) n
control_sent_on done o n is =
    let P : Seal → Type 0 = IsControlAhead n.endpoint.sending in record {
      ahead = All-append P done (sent_pair o) is.ahead
          (All-cons P (inner_seal o) (outer_seal o ∷ []) (media_ahead n.endpoint.sending (inner_seal o) refl)
          (All-cons P (outer_seal o) [] (media_ahead n.endpoint.sending (outer_seal o) refl) (All-nil P)));
    }

never_sent : (s : State) (done : List Seal) (m : Member) (d : Datagram) → IsSound (core_of s) → IsSender s m → Fits d → NeverTwice (wire_of s) done
    → NeverTwice (record (wire_of s) { members = with_member m.name with_send s.members; datagrams = s.datagrams ++ d ∷ [] }) (done ++ sent_pair m.endpoint.sending)
never_sent s done m d sound is fits never =
    let o : Outgoing = m.endpoint.sending in record {
      seals = clear_sent s done m d sound is fits never.seals;
      masters = subst (All AreMasters) (sym (pairs_kept m.name with_send s.members (λ n. refl))) never.masters;
      control = control_members (done ++ sent_pair o) m.name with_send s.members (record { goes = λ n. omega arith; client = λ n. refl })
          (All-weaker (IsControlSealer done) (IsControlSealer (done ++ sent_pair o)) (λ n. control_sent_on done o n) s.members never.control);
    }

-- the secret that a member sends under is right
right_secret : (s : State) (m : Member) → IsSound (core_of s) → IsMember s.secrets s.table (length s.datagrams) m → IsSecret m.endpoint.sending.secret
right_secret s m sound is =
    let secret : Secret = m.endpoint.sending.secret in
    All-contains IsSecret s.secrets secret sound.issued.right (found_of (λ (x : Secret). x.spi == secret.spi) s.secrets secret is.secret).0

abbrev sent_state : State → Member → Content → Turn
sent_state s m content =
    Goes (report.WireUp (length s.datagrams + 1) m.name (sent_by m content).octets ∷ []) (record s {
      members = with_member m.name with_send s.members;
      table = record { rows = s.table.rows ++ sent_row m.name (length s.datagrams + 1) m.endpoint.sending content ∷ []; wraps = s.table.wraps ++ sent_wraps m.endpoint.sending };
      datagrams = s.datagrams ++ sent_by m content ∷ [];
    })

send_by : (turns : Turns) (s : State) (content : Content) (done : List Seal) (m : Member) (name : List ℕ) (full : Bool) → IsFound s.members name m → nat_le most_datagrams (length s.datagrams) ≡ full
    → IsMedia content → Facts turns (core_of s) → NeverTwice (wire_of s) done
    → ClearBehind (done ++ sent_seals m) (cond full (Refused reason.Limit) (sent_state s m content))
send_by turns s content done m name true found room media f clear = tt
send_by turns s content done m name false found room media f clear =
    let left = leb-false most_datagrams (length s.datagrams) room in
    let is : IsMember s.secrets s.table (length s.datagrams) m = All-contains (IsMember s.secrets s.table (length s.datagrams)) s.members m f.sound.members found.there in
    let most = is.few in
    let few : m.endpoint.sending.sending.next < 2 ^ 48 = omega arith in
    never_sent s done m (sent_by m content) f.sound
    (record { there = found.there; few = few; ssrc = is.sender; fits = is.sending.ssrc; free = free_outer m.endpoint.sending is.sending.outer few })
    (sent_fits m content media is.sending (right_secret s m f.sound is) (sending_master (wire_of s) done m found.there clear)) clear

send_clear : (turns : Turns) (s : State) (name : List ℕ) (content : Content) (done : List Seal) → IsMedia content → Facts turns (core_of s) → NeverTwice (wire_of s) done
    → ClearBehind (done ++ option_map_or sent_seals (member_named name s) []) (send_turn s name content)
unfolding send_turn
send_clear turns s name content done media f clear =
    at_found s name done sent_seals (λ m. sent_turn s m content) (member_named name s) refl
    (λ m found. send_by turns s content done m name (nat_le most_datagrams (length s.datagrams)) found refl media f clear)

-- ---- rtcp

rtcp_goes : (o : Outgoing) → GoesOn o (after_rtcp o)
rtcp_goes o = record { ssrc = refl; next = omega arith; outer = λ high is. (high, is, omega arith); rtcp = omega arith }

control_keeps : KeepsSending with_control
control_keeps = record {
  keeps = record { name = λ m. refl; ssrc = λ m. refl };
  pair = λ m. refl;
  goes = λ m. rtcp_goes m.endpoint.sending;
  client = λ m. refl;
}

control_hop : (n : Outgoing) (p : Seal) → p.layer ≡ HopByHop → p.kind ≡ Srtcp → IsAhead n p
control_hop n p hop control = record {
  inner = λ index fits layer is. let bad : HopByHop ≡ EndToEnd = sym hop ∙ layer in absurd (cc);
  outer = λ index fits layer kind master is. let bad : Srtcp ≡ Srtp = sym control ∙ kind in absurd (cc);
}

sealer_control : (done : List Seal) (u : Seal) (n : Member) → u.layer ≡ HopByHop → u.kind ≡ Srtcp → IsSealer done n → IsSealer (done ++ u ∷ []) n
sealer_control done u n hop control is =
    record { client = is.client; ahead = All-push (IsAhead n.endpoint.sending) done u is.ahead (control_hop n.endpoint.sending u hop control) }

-- The next control packet isn't sealed like what its sender is past.
control_apart : (o : Outgoing) (plain : List ℕ) (p : Seal) → o.rtcp < 2 ^ 31 → IsControlAhead o p → AreOtherSeals p (rtcp_seal o plain)
control_apart o plain p few a = λ layers masters kinds ivs.
    let below = a.past (rtcp_ssrc plain) o.rtcp few layers kinds masters
    (ivs ∙ ap (λ (k : KeyAndSalt). rtcp_iv (session_keys k Srtcp).salt (rtcp_ssrc plain) o.rtcp) (sym masters)) in omega arith

clear_control : (w : Wire) (done : List Seal) (m : Member) (plain : List ℕ) → m.endpoint.sending.rtcp < 2 ^ 31 → Contains w.members m → NeverTwice w done
    → IsClear w (done ++ rtcp_seal m.endpoint.sending plain ∷ [])
clear_control w done m plain few there never =
    let o : Outgoing = m.endpoint.sending in
    let u : Seal = rtcp_seal o plain in
    let pairs : List Pair = pairs_of w.members in
    let client : o.client ≡ m.client = own_client w done m there never in
    let in_pairs : Contains pairs (pair_of m) = contains_map pair_of w.members m there in record {
      pairs = never.seals.pairs;
      sealers = All-weaker (IsSealer done) (IsSealer (done ++ u ∷ [])) (λ n. sealer_control done u n refl refl) w.members never.seals.sealers;
      entries = never.seals.entries;
      origins = All-push (HasOrigin w.members) done u never.seals.origins (record {
        sender = λ layer. let bad : HopByHop ≡ EndToEnd = layer in absurd (cc);
        pair = λ layer. record { pair = pair_of m; there = in_pairs; is = inl client };
      });
      kept = All-push (IsKept pairs w.set w.sealing) done u never.seals.kept (record {
        kept = λ serial ssrc index asked.
            absurd (sides pairs (pair_of m) asked.pair never.seals.pairs in_pairs (contains_at pairs serial asked.pair asked.at) (sym client ∙ asked.master));
      });
      fits = never.seals.fits;
      apart = all_pairs_push AreOtherSeals done u never.seals.apart
          (All-weaker (IsControlAhead o) (λ p. AreOtherSeals p u) (λ p a. control_apart o plain p few a) done
          (All-contains (IsControlSealer done) w.members m never.control there).ahead);
    }

-- Its sender is past it then,
control_itself : (o : Outgoing) (plain : List ℕ) → o.rtcp < 2 ^ 31 → IsControlAhead (after_rtcp o) (rtcp_seal o plain)
control_itself o plain small = record {
  past = λ ssrc index few layer kind master is.
      let same = rtcp_index (session_keys o.client Srtcp).salt (rtcp_ssrc plain) ssrc o.rtcp index small few is in omega arith;
}

-- and no other seals under its pair.
control_other : (n : Outgoing) (p : Seal) → (p.master ≡ n.client → ⊥) → IsControlAhead n p
control_other n p other = record { past = λ ssrc index few layer kind master is. absurd (other master) }

-- another member than the one that sends
record IsControlOther (members : List Member) (done : List Seal) (n : Member) : Type 0 where
  there : Contains members n
  client : n.endpoint.sending.client ≡ n.client
  control : IsControlSealer done n

never_control : (s : State) (done : List Seal) (m : Member) (plain : List ℕ) (d : Datagram) → IsSound (core_of s) → m.endpoint.sending.rtcp < 2 ^ 31 → Contains s.members m → Fits d
    → NeverTwice (wire_of s) done
    → NeverTwice (record (wire_of s) { members = with_member m.name with_control s.members; datagrams = s.datagrams ++ d ∷ [] }) (done ++ control_sent plain m)
never_control s done m plain d sound few there fits never =
    let o : Outgoing = m.endpoint.sending in
    let u : Seal = rtcp_seal o plain in
    let more : List Seal = done ++ u ∷ [] in
    let own : o.client ≡ m.client = own_client (wire_of s) done m there never in
    let others : All (IsControlOther s.members done) s.members = λ k d within. record {
      there = All-contains_itself s.members k d within;
      client = (never.seals.sealers k d within).client;
      control = never.control k d within;
    } in record {
      seals = clear_datagrams (record (wire_of s) { members = with_member m.name with_control s.members }) more (s.datagrams ++ d ∷ [])
          (All-push Fits s.datagrams d never.seals.fits fits)
          (clear_change (wire_of s) more m.name with_control control_keeps (clear_control (wire_of s) done m plain few there never));
      masters = subst (All AreMasters) (sym (pairs_kept m.name with_control s.members (λ n. refl))) never.masters;
      control = changed_all (IsControlOther s.members done) (IsControlSealer more) m with_control s.members sound.others there others
          (λ it. record {
            ahead = All-push (IsControlAhead (after_rtcp o)) done u
                (All-weaker (IsControlAhead o) (IsControlAhead (after_rtcp o)) (λ p. control_after o (after_rtcp o) p (omega arith) refl) done it.control.ahead)
                (control_itself o plain few);
          })
          (λ n other it. record {
            ahead = All-push (IsControlAhead n.endpoint.sending) done u it.control.ahead
                (control_other n.endpoint.sending u
                (λ same. clients_differ s.members n m never.seals.pairs it.there there other (sym it.client ∙ sym same ∙ own)));
          });
    }

abbrev control_state : State → Member → List ℕ → Turn
control_state s m plain =
    Goes (report.WireUp (length s.datagrams + 1) m.name (control_by m plain).octets ∷ [])
    (record s { members = with_member m.name with_control s.members; datagrams = s.datagrams ++ control_by m plain ∷ [] })

rtcp_by : (turns : Turns) (s : State) (plain : List ℕ) (done : List Seal) (m : Member) (name : List ℕ) (full : Bool) → IsFound s.members name m
    → nat_le most_datagrams (length s.datagrams) ≡ full → AreOctets plain → Facts turns (core_of s) → NeverTwice (wire_of s) done
    → ClearBehind (done ++ control_sent plain m) (cond full (Refused reason.Limit) (control_state s m plain))
rtcp_by turns s plain done m name true found room octets f clear = tt
rtcp_by turns s plain done m name false found room octets f clear =
    let left = leb-false most_datagrams (length s.datagrams) room in
    let is : IsMember s.secrets s.table (length s.datagrams) m = All-contains (IsMember s.secrets s.table (length s.datagrams)) s.members m f.sound.members found.there in
    let most = is.few_control in
    never_control s done m plain (control_by m plain) f.sound (omega arith) found.there
    (control_fits m plain (sending_master (wire_of s) done m found.there clear) octets) clear

rtcp_clear : (turns : Turns) (s : State) (name plain : List ℕ) (done : List Seal) → AreOctets plain → Facts turns (core_of s) → NeverTwice (wire_of s) done
    → ClearBehind (done ++ option_map_or (control_sent plain) (member_named name s) []) (rtcp_turn s name plain)
unfolding rtcp_turn
rtcp_clear turns s name plain done octets f clear =
    at_found s name done (control_sent plain) (λ m. control_turn s m plain) (member_named name s) refl
    (λ m found. rtcp_by turns s plain done m name (nat_le most_datagrams (length s.datagrams)) found refl octets f clear)

-- ---- a datagram that seals nothing that counts

added_by : (s : State) (line : Report) (d : Datagram) (done : List Seal) (full : Bool) → Fits d → NeverTwice (wire_of s) done
    → ClearBehind done (cond full (Refused reason.Limit) (Goes (line ∷ []) (record s { datagrams = s.datagrams ++ d ∷ [] })))
added_by s line d done true fits clear = tt
added_by s line d done false fits clear = never_push (wire_of s) done d fits clear

added_clear : (s : State) (line : Report) (d : Datagram) (done : List Seal) → Fits d → NeverTwice (wire_of s) done → ClearBehind done (added s line d)
added_clear s line d done fits clear = added_by s line d done (nat_lt most_octets (length d.octets) || nat_le most_datagrams (length s.datagrams)) fits clear

made_clear : (s : State) (octets : List ℕ) (done : List Seal) → AreOctets octets → NeverTwice (wire_of s) done → ClearBehind done (made s octets)
made_clear s octets done all clear =
    added_clear s (report.WireMade (length s.datagrams + 1) octets) (record { octets = octets; unsealed = None }) done (made_fits octets all) clear

unless_none : (done : List Seal) (none : Bool) (t : Turn) → ClearBehind done t → ClearBehind done (cond none (Refused reason.Datagram) t)
unless_none done true t is = tt
unless_none done false t is = is

at_number : (s : State) (number : ℕ) (done : List Seal) (goes : Datagram → Turn) → NeverTwice (wire_of s) done → ((d : Datagram) → Fits d → ClearBehind done (goes d))
    → ClearBehind done (at_datagram s number goes)
at_number s number done goes clear each = by (datagram_at s.datagrams number) (λ d e. each d (found_fits s.datagrams number d clear.seals.fits e)) where
  by : (found : Option Datagram) → ((d : Datagram) → found ≡ Some d → ClearBehind done (goes d)) → ClearBehind done (option_map_or goes found (Refused reason.Datagram))
  by None of = tt
  by (Some d) of = of d refl

inject_clear : (s : State) (octets : List ℕ) (done : List Seal) → AreOctets octets → NeverTwice (wire_of s) done → ClearBehind done (inject_turn s octets)
unfolding inject_turn
inject_clear s octets done all clear = made_clear s octets done all clear

alter_clear : (s : State) (number offset : ℕ) (new : List ℕ) (done : List Seal) → AreOctets new → NeverTwice (wire_of s) done → ClearBehind done (alter_turn s number offset new)
unfolding alter_turn
alter_clear s number offset new done all clear =
    at_number s number done (alter_datagram s offset new) clear
    (λ d fits. unless_none done (nat_lt (length d.octets) (offset + length new)) (made s (altered d.octets offset new))
    (made_clear s (altered d.octets offset new) done (altered_octets d.octets offset new fits.octets all) clear))

graft_clear : (s : State) (first front second back : ℕ) (done : List Seal) → NeverTwice (wire_of s) done → ClearBehind done (graft_turn s first front second back)
unfolding graft_turn
graft_clear s first front second back done clear =
    at_number s first done (λ a. at_datagram s second (λ b. graft_datagrams s front back a b)) clear
    (λ a of_a. at_number s second done (λ b. graft_datagrams s front back a b) clear
    (λ b of_b. unless_none done (no_graft a.octets front b.octets back) (made s (grafted a.octets front b.octets back))
    (made_clear s (grafted a.octets front b.octets back) done (grafted_octets a.octets front b.octets back of_a.octets of_b.octets) clear)))

-- A reseal counts for nothing here: what is made of it is a datagram.
reseal_by : (s : State) (done : List Seal) (m : Member) (roc : ℕ) (change : Rewrite) (u : Option Unsealed) → IsMaster m.server → IsRewrite change → UnsealedFits u → NeverTwice (wire_of s) done
    → ClearBehind done (option_map_or (λ x. reseal_for s m roc (unsealed_anew x change)) u (Refused reason.Datagram))
reseal_by s done m roc change None master may before clear = tt
reseal_by s done m roc change (Some u) master may before clear =
    let anew : Unsealed = unsealed_anew u change in
    added_clear s (report.WireReseal (length s.datagrams + 1) m.name (sealed_anew m roc anew)) (resealed m roc anew) done (resealed_fits m roc u change master may before) clear

reseal_clear : (s : State) (number : ℕ) (name : List ℕ) (roc : ℕ) (words : Changes) (done : List Seal) → IsRewrite (rewrite_by words) → NeverTwice (wire_of s) done
    → ClearBehind done (reseal_turn s number name roc words)
unfolding reseal_turn
reseal_clear s number name roc words done may clear =
    let change : Rewrite = rewrite_by words in
    quiet_at s name done (λ m. at_datagram s number (reseal_datagram s m roc change)) (member_named name s) refl
    (λ m found. at_number s number done (reseal_datagram s m roc change) clear
    (λ d fits. reseal_by s done m roc change d.unsealed (own_masters (wire_of s) done m found.there clear).server may fits.before clear))

-- ---- forward

-- No member's client pair is one.
served_ahead : (w : Wire) (done : List Seal) (n : Member) (u : Seal) → IsClear w done → Contains w.members n → n.endpoint.sending.client ≡ n.client → IsServed w.set u
    → IsControlAhead n.endpoint.sending u
served_ahead w done n u clear there client served =
    let pairs : List Pair = pairs_of w.members in
    let e : Entry = served.entry in
    let theirs : Contains pairs (e.client, e.server) =
    contains_at pairs e.serial (e.client, e.server) (All-contains (IsEntryOf pairs) w.set e clear.entries served.there) in
    control_other n.endpoint.sending u (λ same.
    sides pairs (pair_of n) (e.client, e.server) clear.pairs (contains_map pair_of w.members n there) theirs (sym client ∙ sym same ∙ served.master))

never_step : (w : Wire) (number of : ℕ) (batch : List Packet) (change : Rewrite) (only : Option (List (List ℕ))) (done : List Seal) → All PacketFits batch → NeverTwice w done
    → NeverTwice (with_kept w (media_step number of w.set batch change only w.sealing).1) (done ++ step_seals number of w.set batch change only w.sealing)
never_step w number of batch change only done fits never =
    let new : List Seal = step_seals number of w.set batch change only w.sealing in record {
      seals = clear_step w number of batch change only done fits never.seals;
      masters = never.masters;
      control = λ k d within.
          let n : Member = get_or w.members k d in record {
            ahead = All-append (IsControlAhead n.endpoint.sending) done new (never.control k d within).ahead
                (All-weaker (IsServed w.set) (IsControlAhead n.endpoint.sending)
                (λ u served. served_ahead w done n u never.seals (All-contains_itself w.members k d within) (never.seals.sealers k d within).client served) new
                (step_served number of w.set batch change only w.sealing));
          };
    }

forwarded_clear : (s : State) (done : List Seal) (numbers : List ℕ) (words : Changes) (to : Option (List (List ℕ))) (m : Member) → IsRewrite (rewrite_by words) → NeverTwice (wire_of s) done
    → ClearBehind (done ++ forward_seals s numbers words to m) (forwarded s m numbers (rewrite_by words) to)
forwarded_clear s done numbers words to m may clear =
    let change : Rewrite = rewrite_by words in
    let opened = takings s.set s.heard m.association (numbered s.datagrams numbers) in
    let batch : List Packet = filter_map packet_in opened.0 in
    let only = option_map (associations_of s) to in
    let step = media_step 0 1 s.set batch change only s.sealing in
    let told = reported_takings s.members change step.0 0 s.datagrams opened.0 in
    let masters : All HasMasters s.set = entry_masters (wire_of s) done clear in
    let opened_fits : All TakingFits opened.0 =
    opened_fit s.set s.heard m.association (numbered s.datagrams numbers) masters (numbered_fit s.datagrams numbers clear.seals.fits) in
    let batch_fit : All PacketFits batch = batch_fits opened.0 opened_fits in
    never_datagrams (with_kept (wire_of s) step.1) (done ++ step_seals 0 1 s.set batch change only s.sealing) told.1
    (takings_fit s.members change step.0 0 s.datagrams opened.0 may opened_fits (step_out 0 1 s.set batch change only s.sealing masters may batch_fit) clear.seals.fits)
    (never_step (wire_of s) 0 1 batch change only done batch_fit clear)

forward_tested : (s : State) (done : List Seal) (numbers : List ℕ) (words : Changes) (to : Option (List (List ℕ))) (m : Member) (absent missing full : Bool) → IsRewrite (rewrite_by words)
    → NeverTwice (wire_of s) done
    → ClearBehind (done ++ forward_seals s numbers words to m)
    (cond absent (Refused reason.Name) (cond missing (Refused reason.Datagram) (cond full (Refused reason.Limit) (forwarded s m numbers (rewrite_by words) to))))
forward_tested s done numbers words to m true missing full may clear = tt
forward_tested s done numbers words to m false true full may clear = tt
forward_tested s done numbers words to m false false true may clear = tt
forward_tested s done numbers words to m false false false may clear = forwarded_clear s done numbers words to m may clear

forward_clear : (s : State) (name : List ℕ) (numbers : List ℕ) (words : Changes) (to : Option (List (List ℕ))) (done : List Seal) → IsRewrite (rewrite_by words)
    → NeverTwice (wire_of s) done → ClearBehind (done ++ option_map_or (forward_seals s numbers words to) (member_named name s) []) (forward_turn s name numbers words to)
unfolding forward_turn
forward_clear s name numbers words to done may clear =
    at_found s name done (forward_seals s numbers words to) (λ m. forward_by s m numbers (rewrite_by words) to) (member_named name s) refl
    (λ m found. forward_tested s done numbers words to m (not (option_map_or (are_present s) to true)) (not (list_all (λ n. is_some (datagram_at s.datagrams n)) numbers))
    (nat_lt most_datagrams (length s.datagrams + length numbers * count_recipients s m to)) may clear)

-- ---- deliver

heard_clear : (s : State) (done : List Seal) (m : Member) (line : Report) (r : Receiver) → NeverTwice (wire_of s) done → ClearBehind done (heard_turn s m line r)
heard_clear s done m line r clear = never_change (wire_of s) done m.name (with_receiver r) (receiver_keeps r) clear

media_clear : (s : State) (done : List Seal) (number : ℕ) (m : Member) (octets : List ℕ) (foreign : Bool) → NeverTwice (wire_of s) done
    → ClearBehind done (cond foreign (Halts m.name)
    (heard_turn s m (answer_line s.table number m.name (by_cipher s.table m.endpoint.receiving octets).0) (by_cipher s.table m.endpoint.receiving octets).1))
media_clear s done number m octets true clear = tt
media_clear s done number m octets false clear =
    heard_clear s done m (answer_line s.table number m.name (by_cipher s.table m.endpoint.receiving octets).0) (by_cipher s.table m.endpoint.receiving octets).1 clear

delivered_clear : (s : State) (done : List Seal) (number : ℕ) (m : Member) (octets : List ℕ) (kind : Carried) → NeverTwice (wire_of s) done
    → ClearBehind done (delivered by_cipher s number m octets kind)
delivered_clear s done number m octets carried.Dtls clear = clear
delivered_clear s done number m octets carried.Other clear = clear
delivered_clear s done number m octets carried.Rtcp clear =
    heard_clear s done m (control_line number m.name (outcome_rtcp m.endpoint.receiving octets).0) (outcome_rtcp m.endpoint.receiving octets).1 clear
delivered_clear s done number m octets carried.Rtp clear = media_clear s done number m octets (is_foreign s.table m.endpoint.receiving octets) clear

datagram_clear : (s : State) (done : List Seal) (number : ℕ) (m : Member) (d : Option Datagram) → NeverTwice (wire_of s) done
    → ClearBehind done (option_map_or (λ x. delivered by_cipher s number m x.octets (kind_of x.octets)) d (Refused reason.Datagram))
datagram_clear s done number m None clear = tt
datagram_clear s done number m (Some d) clear = delivered_clear s done number m d.octets (kind_of d.octets) clear

deliver_clear : (s : State) (number : ℕ) (name : List ℕ) (done : List Seal) → NeverTwice (wire_of s) done → ClearBehind done (deliver_turn by_cipher s number name)
unfolding deliver_turn
deliver_clear s number name done clear =
    quiet_at s name done (λ m. option_map_or (λ x. delivered by_cipher s number m x.octets (kind_of x.octets)) (datagram_at s.datagrams number) (Refused reason.Datagram)) (member_named name s) refl
    (λ m found. datagram_clear s done number m (datagram_at s.datagrams number) clear)

-- ---- any line

form_clear : (turns : Turns) (s : State) (profile : Profile) (line : Script) (done : List Seal) → IsScript line → Facts turns (core_of s)
    → NeverTwice (wire_of s) done → NeverTwice (wire_of s) (done ++ [])
    → ClearBehind (done ++ line_seals s line) (form_turn by_cipher s profile line)
form_clear turns s profile script.Nothing done said f clear same = same
form_clear turns s profile (script.Conference other) done said f clear same = tt
form_clear turns s profile (script.Ekt key salt) done said f clear same = ekt_clear s key salt (done ++ []) same
form_clear turns s profile (script.Join name ssrc seq client server key) done said f clear same =
    join_clear turns s profile (record { name = name; ssrc = ssrc; seq = seq; client = client; server = server; key = key }) (done ++ []) said same
form_clear turns s profile (script.Leave name) done said f clear same = leave_clear s name (done ++ []) same
form_clear turns s profile (script.Grant name spi key) done said f clear same = grant_clear s name key spi (done ++ []) same
form_clear turns s profile (script.Rekey name key) done said f clear same = rekey_clear s name key (done ++ []) same
form_clear turns s profile (script.Send name pt marker timestamp payload options) done said f clear same =
    send_clear turns s name (content_of pt marker timestamp payload options) done (said_media name pt marker timestamp payload options said) f clear
form_clear turns s profile (script.Rtcp name octets) done said f clear same = rtcp_clear turns s name octets done (bytes_from octets said.1.fits.octets) f clear
form_clear turns s profile (script.Inject octets) done said f clear same = inject_clear s octets (done ++ []) (bytes_from octets said.fits.octets) same
form_clear turns s profile (script.Alter datagram offset octets) done said f clear same =
    alter_clear s datagram offset octets (done ++ []) (bytes_from octets said.2.octets) same
form_clear turns s profile (script.Graft first front second back) done said f clear same = graft_clear s first front second back (done ++ []) same
form_clear turns s profile (script.Reseal datagram name roc changes) done said f clear same =
    reseal_clear s datagram name roc changes (done ++ []) (words_change name changes said.1 said.3) same
form_clear turns s profile (script.Forward name datagrams changes recipients) done said f clear same =
    forward_clear s name datagrams changes recipients done (words_change name changes said.0 said.2) clear
form_clear turns s profile (script.Deliver datagram name) done said f clear same = deliver_clear s datagram name (done ++ []) same

first_clear : (s : State) (line : Script) (done : List Seal) → NeverTwice (wire_of s) (done ++ []) → ClearBehind (done ++ line_seals s line) (first_turn s line)
first_clear s script.Nothing done same = same
first_clear s (script.Conference profile) done same = same
first_clear s (script.Ekt key salt) done same = tt
first_clear s (script.Join name ssrc seq client server key) done same = tt
first_clear s (script.Leave name) done same = tt
first_clear s (script.Grant name spi key) done same = tt
first_clear s (script.Rekey name key) done same = tt
first_clear s (script.Send name pt marker timestamp payload options) done same = tt
first_clear s (script.Rtcp name octets) done same = tt
first_clear s (script.Inject octets) done same = tt
first_clear s (script.Alter datagram offset octets) done same = tt
first_clear s (script.Graft first front second back) done same = tt
first_clear s (script.Reseal datagram name roc changes) done same = tt
first_clear s (script.Forward name datagrams changes recipients) done same = tt
first_clear s (script.Deliver datagram name) done same = tt

where_fits : (done : List Seal) (t : Turn) (fit : Bool) → ClearBehind done t → ClearBehind done (cond (not fit) (Refused reason.Form) t)
where_fits done t false is = tt
where_fits done t true is = is

under_clear : (turns : Turns) (s : State) (line : Script) (head : Option Profile) (done : List Seal) → IsScript line → Facts turns (core_of s) → NeverTwice (wire_of s) done
    → ClearBehind (done ++ line_seals s line) (turn_under by_cipher s line head)
under_clear turns s line None done said f clear = first_clear s line done (never_same (wire_of s) done clear)
under_clear turns s line (Some profile) done said f clear =
    where_fits (done ++ line_seals s line) (form_turn by_cipher s profile line) (fits profile line)
    (form_clear turns s profile line done said f clear (never_same (wire_of s) done clear))

-- What a line seals is sealed as nothing before.
pub turn_clear : (turns : Turns) (s : State) (line : Script) (done : List Seal) → IsScript line → Facts turns (core_of s) → NeverTwice (wire_of s) done
    → ClearBehind (done ++ line_seals s line) (turn by_cipher s line)
unfolding turn
turn_clear turns s line done said f clear = under_clear turns s line s.profile done said f clear
