-- A datagram that was opened in a copy.
use Rattle.std.proofs.Common.{◌≡◌, ℕ, ◌+◌, ◌-◌, ◌<◌, ◌≤◌, Bool, true, false, cond, not, List, [], ◌∷◌, ◌++◌, length, take, drop, get_or, None, Result, Ok, Err, refl, sym, ap, subst, ◌∙◌, append_assoc, arith, rules, ◌/◌}
use Rattle.std.specs.Prelude.{◌==◌, ◌^◌, IsOk, nat_lt}
use Rattle.std.proofs.lemmas.Bool.Decides.{nat_tests}
use Rattle.std.proofs.lemmas.List.{drop_at, get_or_append_left, length-append, length-drop, length-take, take-append-le, take-take, take_at}
use Rattle.perc_kdf.specs.Derivation.{IsSession, KeyAndSalt}
use Rattle.perc_rtp.specs.Header.{spelling, version}
use Rattle.perc_rtp.specs.Carried.{rtcp_head}
use Rattle.perc_ohb.specs.Block as ohb
use Rattle.perc_ekt.specs.Field as ekt
use Rattle.perc_gcm.specs.Gcm.{sealed_text}
use Rattle.perc_window.specs.Replay.{Marks, freshness}
use Rattle.perc_window.specs.declared.window.Freshness.TheVariants.{Fresh, Repeated, TooOld}
use Rattle.perc_srtp.specs.Sealed.{rtcp_aad, rtcp_iv, rtcp_ssrc, rtcp_word, sealed_rtcp}
use Rattle.perc_srtp.specs.Streams.{end_word, rtcp_opened}
use Rattle.perc_srtp.specs.declared.rtcp.RtcpFault.{RtcpFault}
use Rattle.perc_srtp.specs.declared.rtcp.RtcpFault.TheVariants as rtcp
use Rattle.perc_srtp.proofs.Streaming.{rtcp_opens_as_sealed}
use Rattle.perc_keyset.specs.declared.Entry.{Entry}
use Rattle.perc_outer.specs.Streams.{OuterStream}
use Rattle.perc_outer.specs.Datagram.{Opened, Reach, reached}
use Rattle.perc_outer.specs.Kept.{IsReach, IsTold}
use Rattle.perc_outer.specs.Reaching.{IsReached}
use Rattle.perc_outer.specs.declared.reaching.Reached.{Reached as Told}
use Rattle.perc_outer.proofs.Outer.{is_reached, told_reached}
use Rattle.perc_distributor.proofs.UnderWay.{take_whole}
use Rattle.perc_distributor.specs.declared.plain.Plain.{Plain}
use Rattle.perc_distributor.specs.Kept.{IsControl, IsMedia}
use Rattle.perc_distributor.specs.Hearing.{IsAnswer, IsCopyOpened, IsCopyReached, IsOpenedAt, control_of}

-- ---- media

-- the facts of a datagram that was reached where its copy stood
pub record Copied (keys : KeyAndSalt) (datagram new : List ℕ) (told : Told) : Type 0 where
  pub session : IsSession keys
  pub octets : (k : ℕ) → get_or datagram k 0 < 256
  pub size : length new ≡ length datagram
  pub within : told.len + 16 ≤ length new

copy_opened : (keys : KeyAndSalt) (before : List OuterStream) (datagram new post : List ℕ) (told : Told) (o : Opened) → Copied keys datagram new told
    → IsReached keys None before datagram o → IsTold told o new → IsOpenedAt o datagram (new ++ post) told.len
copy_opened keys before datagram new post told o c r t =
    let within = c.within in
    let size = c.size in
    let whole : length datagram ≡ length r.packet + length (ekt.spelling o.field) = ap length r.is_datagram.octets ∙ length-append r.packet (ekt.spelling o.field) in
    let back : length (ekt.spelling o.field) ≡ length new - (told.len + 16) = ap length (sym t.field_octets) ∙ length-drop (told.len + 16) new in
    let front : length r.packet ≡ told.len + 16 = omega arith in
    record {
      packet = record {
        block = r.block;
        reads = record {
          header = r.is_packet.header;
          octets = take-append-le told.len new post (omega arith) ∙ t.packet ∙ append_assoc (spelling o.header) o.inner (ohb.spelling o.block);
        };
      };
      field = ap (drop (told.len + 16)) r.is_datagram.octets ∙ drop_at r.packet (ekt.spelling o.field) (told.len + 16) front;
    }

pub copy_reached : (keys : KeyAndSalt) (before : List OuterStream) (datagram new post : List ℕ) (told : Told) → Copied keys datagram new told
    → IsReach (reached keys None before datagram) (Ok told) new → IsCopyReached (reached keys None before datagram) (Ok told.len) datagram (new ++ post)
copy_reached keys before datagram new post told c is =
    let t = told_reached (reached keys None before datagram) told new is in
    subst (λ (reach : Reach). IsCopyReached reach (Ok told.len) datagram (new ++ post)) (sym t.1)
    (told.len, refl, copy_opened keys before datagram new post told t.0 c (is_reached keys None before datagram t.0 c.session c.octets t.1) t.2)

-- the facts of a media packet with its field behind it
pub record Put (p : Plain) (from octets copy : List ℕ) (n : ℕ) : Type 0 where
  pub source : p.from ≡ from
  pub kind : p.rtcp ≡ false
  pub len : p.len ≡ n + length (drop (n + 16) octets)
  pub field : p.field ≡ p.len - n
  pub within : p.len ≤ 1500
  pub room : n ≤ length copy
  pub written : take p.len p.octets ≡ take n copy ++ drop (n + 16) octets

-- a slice from a place on
pub slice_behind : (n : ℕ) (xs : List ℕ) → take (length xs - n) (drop n xs) ≡ drop n xs
slice_behind n xs = take_whole (drop n xs) (length xs - n) (omega (arith, length-drop n xs))

pub media_put : (p : Plain) (from : List ℕ) (o : Opened) (octets copy : List ℕ) (n : ℕ) → Put p from octets copy n → IsOpenedAt o octets copy n
    → IsMedia p from o.header o.inner o.block o.field
media_put p from o octets copy n put at =
    let len = put.len in
    let field = put.field in
    let room = put.room in
    let end : p.len - p.field ≡ n = omega arith in
    let front : length (take n copy) ≡ n = length-take n copy ∙ omega arith in
    let packet : take (p.len - p.field) p.octets ≡ take n copy =
    ap (λ (k : ℕ). take k p.octets) end ∙ sym (take-take n p.len p.octets (omega arith)) ∙ ap (take n) put.written ∙ take_at (take n copy) (drop (n + 16) octets) n front in
    let behind : drop (p.len - p.field) (take p.len p.octets) ≡ ekt.spelling o.field =
    ap (λ (k : ℕ). drop k (take p.len p.octets)) end ∙ ap (drop n) put.written ∙ drop_at (take n copy) (drop (n + 16) octets) n front ∙ at.field in
    record {
      source = put.source;
      kind = put.kind;
      within = put.within;
      field_within = omega arith;
      packet = record {
        block = at.packet.block;
        reads = record { header = at.packet.reads.header; octets = packet ∙ at.packet.reads.octets };
      };
      field_octets = behind;
    }

-- ---- control

place_version : (a b c : Bool) (r : Result ℕ RtcpFault) (index : ℕ) → cond a (Err rtcp.Short) (cond (not b) (Err rtcp.Version) (cond c (Err rtcp.Clear) r)) ≡ Ok index → b ≡ true
place_version true b c r index is = absurd (cc)
place_version false true c r index is = refl
place_version false false c r index is = absurd (cc)

-- the first octet of a sealed packet is the packet's
first_sealed : (keys : KeyAndSalt) (index : ℕ) (plain : List ℕ) → 8 ≤ length plain → get_or (sealed_rtcp keys index plain) 0 0 ≡ get_or plain 0 0
unfolding sealed_rtcp
first_sealed keys index plain long =
    let head : 0 < length (take 8 plain) = omega (arith, length-take 8 plain) in
    let text : List ℕ = sealed_text keys.key (rtcp_iv keys.salt (rtcp_ssrc plain) index) (rtcp_aad index plain) (drop 8 plain) in
    let front : 0 < length (take 8 plain ++ text) = omega (arith, length-append (take 8 plain) text) in
    get_or_append_left (take 8 plain ++ text) (rtcp_word index) 0 0 front ∙ get_or_append_left (take 8 plain) text 0 0 head ∙ first_taken plain long
  where
    first_taken : (xs : List ℕ) → 8 ≤ length xs → get_or (take 8 xs) 0 0 ≡ get_or xs 0 0
    first_taken [] long = refl
    first_taken (x ∷ xs) long = refl

head_reads : (packet : List ℕ) → 8 ≤ length packet → (version packet == 2) ≡ true → IsOk (rtcp_head packet)
head_reads packet long two =
    let some : nat_lt (length packet) 8 ≡ false = grind (arith, nat_tests) in
    rw (some, two) (search rules)

head_of_opened : (keys : KeyAndSalt) (accepted packet : List ℕ) (index : ℕ) (plain : List ℕ) → rtcp_opened keys accepted packet ≡ Ok (index, plain) → IsOk (rtcp_head plain)
head_of_opened keys accepted packet index plain is =
    let was = rtcp_opens_as_sealed keys accepted packet index plain is in
    let end : ℕ = end_word packet - 2 ^ 31 in
    let last : Result ℕ RtcpFault = elim (freshness accepted end) as (λ _. Result ℕ RtcpFault) [ Fresh ↦ Ok end | Repeated ↦ Err rtcp.Repeated | TooOld ↦ Err rtcp.TooOld ] in
    let two : (version packet == 2) ≡ true = place_version (nat_lt (length packet) 28) (version packet == 2) (nat_lt (end_word packet) (2 ^ 31)) last index was.0 in
    head_reads plain was.2 (ap (λ (x : ℕ). x / 64 == 2) (sym (first_sealed keys index plain was.2) ∙ ap (λ (xs : List ℕ). get_or xs 0 0) (sym was.1)) ∙ two)

same_len : (a b : ℕ) → ◌≡◌ {A = Result ℕ RtcpFault} (Ok a) (Ok b) → a ≡ b
same_len a b is = cc

control_put : (e : Entry) (keys : KeyAndSalt) (accepted packet : List ℕ) (opened : Result (ℕ × List ℕ) RtcpFault) (len : ℕ) (copy : List ℕ) (before after : Marks) (p : Plain)
    → rtcp_opened keys accepted packet ≡ opened → IsCopyOpened accepted opened (Ok len) copy before after
    → ((octets : List ℕ) → take len copy ≡ octets → IsOk (rtcp_head octets) → IsControl p e.association octets) → IsAnswer (control_of e opened) (Ok tt) p
control_put e keys accepted packet (Ok o) len copy before after p opens is puts =
    (refl, puts o.1 (ap (λ (n : ℕ). take n copy) (same_len len (length o.1) is.0) ∙ is.1) (head_of_opened keys accepted packet o.0 o.1 opens))
control_put e keys accepted packet (Err f) len copy before after p opens is puts = let refused = is.0 in absurd (cc)

pub control_answer : (e : Entry) (keys : KeyAndSalt) (accepted packet : List ℕ) (len : ℕ) (copy : List ℕ) (before after : Marks) (p : Plain)
    → IsCopyOpened accepted (rtcp_opened keys accepted packet) (Ok len) copy before after
    → ((octets : List ℕ) → take len copy ≡ octets → IsOk (rtcp_head octets) → IsControl p e.association octets) → IsAnswer (control_of e (rtcp_opened keys accepted packet)) (Ok tt) p
control_answer e keys accepted packet len copy before after p is puts = control_put e keys accepted packet (rtcp_opened keys accepted packet) len copy before after p refl is puts
