-- What is kept stands for a receiver.
use Rattle.std.proofs.Common.{◌≡◌, ℕ, ◌+◌, ◌-◌, List, [], ◌∷◌, ◌++◌, length, drop, Option, Some, None, Result, Ok, Err, refl, ap, ◌∙◌, sym}
use Rattle.std.specs.Prelude.{map, MatchResult}
use Rattle.std.specs.List.{last_or}
use Rattle.std.specs.Option.{option_map}
use Rattle.std.proofs.lemmas.List.{drop-map, length-map, map-append}
use Rattle.perc_base.specs.declared.profile.Profile.{Profile}
use Rattle.perc_kdf.specs.Derivation.{KeyAndSalt, session_keys}
use Rattle.perc_kdf.specs.declared.Kind.TheVariants.{Srtp, Srtcp}
use Rattle.perc_window.specs.Replay.{Marks, StandsFor as WindowStandsFor}
use Rattle.perc_srtp.specs.Ends.{Stream}
use Rattle.perc_srtp.specs.Sealed.{BeginsWith}
use Rattle.perc_srtp.specs.declared.rtcp.RtcpFault.{RtcpFault}
use Rattle.perc_ekt.specs.declared.record.EktKeyRecord.{EktKeyRecord}
use Rattle.perc_contexts.specs.Receiving.{nothing_held, renewed}
use Rattle.perc_contexts.specs.Kept as contexts
use Rattle.perc_outer.specs.Kept as outer
use Rattle.perc_receiver.specs.Table.{Secret, secret_in}
use Rattle.perc_receiver.specs.Receiver.{Receiver, granted, live_of, receiving}
use Rattle.perc_receiver.specs.Calls.{started}
use Rattle.perc_receiver.proofs.Calling.{granted_live}
use Rattle.perc_incoming.specs.Kept.{Kept, StandsFor}

-- ---- a start

pub started_stands : (profile : Profile) (ssrc : ℕ) (server media control : KeyAndSalt) (g : EktKeyRecord) (records : List EktKeyRecord) (held : contexts.Kept)
    (streams : List Stream) (rtcp : Marks) → media ≡ session_keys server Srtp → control ≡ session_keys server Srtcp → records ≡ g ∷ []
    → contexts.StandsFor held (renewed g.spi nothing_held) → outer.StandsFor streams [] → WindowStandsFor rtcp []
    → StandsFor (record { profile = profile; ssrc = ssrc; media = media; control = control; records = records; contexts = held; streams = streams; rtcp = rtcp })
    (started ssrc server (secret_in g))
started_stands profile ssrc server media control g records held streams rtcp media_is control_is records_are h s w = record {
  ssrc = refl;
  media = media_is;
  control = control_is;
  secrets = ap (map secret_in) records_are;
  contexts = record { live = h.live; contexts = h.contexts };
  streams = s;
  rtcp = w;
}

-- ---- a record that is taken

secrets_granted : (kept : List EktKeyRecord) (g : EktKeyRecord) (records : List EktKeyRecord) (secrets : List Secret) → map secret_in kept ≡ secrets
    → records ≡ drop (length kept + 1 - 4) kept ++ g ∷ [] → map secret_in records ≡ drop (length secrets + 1 - 4) secrets ++ secret_in g ∷ []
secrets_granted kept g records secrets same is =
    let n = length kept + 1 - 4 in
    ap (map secret_in) is
    ∙ map-append secret_in (drop n kept) (g ∷ [])
    ∙ ap (λ (l : List Secret). l ++ secret_in g ∷ []) (sym (drop-map secret_in n kept))
    ∙ ap (λ (m : ℕ). drop (m + 1 - 4) (map secret_in kept) ++ secret_in g ∷ []) (sym (length-map kept secret_in))
    ∙ ap (λ (l : List Secret). drop (length l + 1 - 4) l ++ secret_in g ∷ []) same

pub granted_stands : (kept : Kept) (r : Receiver) (g : EktKeyRecord) (records : List EktKeyRecord) (held : contexts.Kept) → StandsFor kept r
    → records ≡ drop (length kept.records + 1 - 4) kept.records ++ g ∷ [] → contexts.StandsFor held (renewed g.spi (receiving r))
    → StandsFor (record kept { records = records; contexts = held }) (granted (secret_in g) r)
granted_stands kept r g records held stands is h = record {
  ssrc = stands.ssrc;
  media = stands.media;
  control = stands.control;
  secrets = secrets_granted kept.records g records r.secrets stands.secrets is;
  contexts = record { live = h.live ∙ sym (granted_live (secret_in g) r); contexts = h.contexts };
  streams = stands.streams;
  rtcp = stands.rtcp;
}

last_or-map : {A B : Type 0} (f : A → B) (o : Option A) (xs : List A) → last_or (option_map f o) (map f xs) ≡ option_map f (last_or o xs)
last_or-map f o [] = refl
last_or-map f o (x ∷ xs) = last_or-map f (Some x) xs

-- The SPI of the last record is the latest.
pub latest_in : (records : List EktKeyRecord) (last : EktKeyRecord) (secrets : List Secret) → Some last ≡ last_or None records → map secret_in records ≡ secrets
    → Some last.spi ≡ last_or None (live_of secrets)
latest_in records last secrets is same =
    ap (λ (o : Option EktKeyRecord). option_map (λ (s : Secret). s.spi) (option_map secret_in o)) is
    ∙ ap (option_map (λ (s : Secret). s.spi)) (sym (last_or-map secret_in None records) ∙ ap (last_or None) same)
    ∙ sym (last_or-map (λ (s : Secret). s.spi) None secrets)

-- ---- an RTCP packet

-- the index that was accepted
pub rtcp_taken : (opened : Result (ℕ × List ℕ) RtcpFault) (len : ℕ) (octets : List ℕ) (marks : Marks) (before : List ℕ) (Kept₁ Kept₂ : Type 0)
    → MatchResult opened
    (λ o. (◌≡◌ {A = Result ℕ RtcpFault} (Ok len) (Ok (length o.1))) × BeginsWith o.1 octets × WindowStandsFor marks (o.0 ∷ before))
    (λ fault. (◌≡◌ {A = Result ℕ RtcpFault} (Ok len) (Err fault)) × Kept₁ × Kept₂)
    → (index : ℕ) × WindowStandsFor marks (index ∷ before)
rtcp_taken (Ok o) len octets marks before _ _ is = (o.0, is.2)
rtcp_taken (Err fault) len octets marks before _ _ is = let bad : ◌≡◌ {A = Result ℕ RtcpFault} (Ok len) (Err fault) = is.0 in absurd (cc)

pub rtcp_stands : (kept : Kept) (r : Receiver) (index : ℕ) (marks : Marks) → StandsFor kept r → WindowStandsFor marks (index ∷ r.rtcp)
    → StandsFor (record kept { rtcp = marks }) (record r { rtcp = index ∷ r.rtcp })
rtcp_stands kept r index marks stands w = record {
  ssrc = stands.ssrc;
  media = stands.media;
  control = stands.control;
  secrets = stands.secrets;
  contexts = record { live = stands.contexts.live; contexts = stands.contexts.contexts };
  streams = stands.streams;
  rtcp = w;
}
