-- What the tests on headers, rows and wraps decide.
use Rattle.std.proofs.Common.{◌≡◌, ℕ, Bool, true, false, List, [], ◌++◌, Option, Some, None, inl, inr, refl, ap, ◌∙◌, sym}
use Rattle.std.specs.Prelude.{◌==◌, ◌&&◌}
use Rattle.std.specs.Str.{bytes_eq}
use Rattle.std.proofs.lemmas.Bool.{and_parts, and_from, eqb-true, eq-eqb, both_ways, cases_Bool, false_from_ne_true}
use Rattle.std.proofs.lemmas.Slice.Eq.{bytes_eq-Decides}
use Rattle.perc_rtp.specs.Header.{Header, IsHeader, IsPacket, spelling}
use Rattle.perc_rtp.proofs.HeaderLaws.{one_packet}
use Rattle.perc_ohb.specs.Rewriting.{same}
use Rattle.perc_contexts.specs.Receiving.{Context}
use Rattle.perc_receiver.specs.Table.{Row, Wrap}
use Rattle.perc_receiver.specs.Opener.{same_extension, same_header, is_row, is_wrap}

-- ---- headers

same-is : (b c : Bool) → same b c ≡ true → b ≡ c
same-is true c h = sym h
same-is false true h = absurd (cc)
same-is false false h = refl

same-made : (b : Bool) → same b b ≡ true
same-made true = refl
same-made false = refl

extension-is : (e f : Option (ℕ × List ℕ)) → same_extension e f ≡ true → e ≡ f
extension-is None None h = refl
extension-is None (Some f) h = absurd (cc)
extension-is (Some e) None h = absurd (cc)
extension-is (Some e) (Some f) h =
    let p = and_parts (e.0 == f.0) (bytes_eq e.1 f.1) h in
    let profile : e.0 ≡ f.0 = eqb-true e.0 f.0 p.0 in
    let words : e.1 ≡ f.1 = (bytes_eq-Decides e.1 f.1).0 p.1 in
    λ i. Some (profile i, words i)

extension-made : (e : Option (ℕ × List ℕ)) → same_extension e e ≡ true
extension-made None = refl
extension-made (Some e) = and_from (e.0 == e.0) (bytes_eq e.1 e.1) (eq-eqb e.0 e.0 refl) ((bytes_eq-Decides e.1 e.1).1 refl)

eight : (a b c d e f g h : Bool) → (a && b && c && d && e && f && g && h) ≡ true
    → (a ≡ true) × (b ≡ true) × (c ≡ true) × (d ≡ true) × (e ≡ true) × (f ≡ true) × (g ≡ true) × (h ≡ true)
eight a b c d e f g h all =
    let p7 = and_parts (a && b && c && d && e && f && g) h all in
    let p6 = and_parts (a && b && c && d && e && f) g p7.0 in
    let p5 = and_parts (a && b && c && d && e) f p6.0 in
    let p4 = and_parts (a && b && c && d) e p5.0 in
    let p3 = and_parts (a && b && c) d p4.0 in
    let p2 = and_parts (a && b) c p3.0 in
    let p1 = and_parts a b p2.0 in
    (p1.0, p1.1, p2.1, p3.1, p4.1, p5.1, p6.1, p7.1)

pub same_header-is : (g h : Header) → same_header g h ≡ true → g ≡ h
same_header-is g h all =
    let p =
    eight (same g.padding h.padding) (same g.marker h.marker) (g.pt == h.pt) (g.seq == h.seq) (g.timestamp == h.timestamp) (g.ssrc == h.ssrc)
    (bytes_eq g.csrcs h.csrcs) (same_extension g.extension h.extension) all in
    let padding : g.padding ≡ h.padding = same-is g.padding h.padding p.0 in
    let marker : g.marker ≡ h.marker = same-is g.marker h.marker p.1 in
    let pt : g.pt ≡ h.pt = eqb-true g.pt h.pt p.2 in
    let seq : g.seq ≡ h.seq = eqb-true g.seq h.seq p.3 in
    let timestamp : g.timestamp ≡ h.timestamp = eqb-true g.timestamp h.timestamp p.4 in
    let ssrc : g.ssrc ≡ h.ssrc = eqb-true g.ssrc h.ssrc p.5 in
    let csrcs : g.csrcs ≡ h.csrcs = (bytes_eq-Decides g.csrcs h.csrcs).0 p.6 in
    let extension : g.extension ≡ h.extension = extension-is g.extension h.extension p.7 in
    λ i. record {
      padding = padding i;
      marker = marker i;
      pt = pt i;
      seq = seq i;
      timestamp = timestamp i;
      ssrc = ssrc i;
      csrcs = csrcs i;
      extension = extension i;
    }

same_header-itself : (h : Header) → same_header h h ≡ true
same_header-itself h =
    let a = same-made h.padding in
    let b = and_from (same h.padding h.padding) (same h.marker h.marker) a (same-made h.marker) in
    let c = and_from _ (h.pt == h.pt) b (eq-eqb h.pt h.pt refl) in
    let d = and_from _ (h.seq == h.seq) c (eq-eqb h.seq h.seq refl) in
    let e = and_from _ (h.timestamp == h.timestamp) d (eq-eqb h.timestamp h.timestamp refl) in
    let f = and_from _ (h.ssrc == h.ssrc) e (eq-eqb h.ssrc h.ssrc refl) in
    let g = and_from _ (bytes_eq h.csrcs h.csrcs) f ((bytes_eq-Decides h.csrcs h.csrcs).1 refl) in
    and_from _ (same_extension h.extension h.extension) g (extension-made h.extension)

pub same_header-made : (g h : Header) → g ≡ h → same_header g h ≡ true
same_header-made g h e = rw e (same_header-itself h)

-- Two headers are one exactly where they are spelled alike.
pub same_header-spelled : (g h : Header) → IsHeader g → IsHeader h → same_header g h ≡ bytes_eq (spelling g) (spelling h)
same_header-spelled g h is_g is_h =
    elim (cases_Bool (same_header g h)) [
      | inl alike ↦ alike ∙ sym ((bytes_eq-Decides (spelling g) (spelling h)).1 (ap (λ (x : Header). spelling x) (same_header-is g h alike)))
      | inr other ↦
          other
          ∙ sym (false_from_ne_true (bytes_eq (spelling g) (spelling h)) (λ spelled. both_ways (same_header g h) other (same_header-made g h (one spelled))))
    ]
  where
    one : bytes_eq (spelling g) (spelling h) ≡ true → g ≡ h
    one spelled =
        let e : spelling g ≡ spelling h = (bytes_eq-Decides (spelling g) (spelling h)).0 spelled in
        let p : IsPacket g [] (spelling g ++ []) = record { header = is_g; octets = refl } in
        let q : IsPacket h [] (spelling g ++ []) = record { header = is_h; octets = ap (λ (x : List ℕ). x ++ []) e } in
        (one_packet g h [] [] (spelling g ++ []) p q).0

-- ---- rows and wraps

-- The row is that of this context and index, with this header and these inner octets.
pub record IsRowOf (c : Context) (index : ℕ) (h : Header) (octets : List ℕ) (row : Row) : Type 0 where
  pub spi : row.spi ≡ c.spi
  pub ssrc : row.ssrc ≡ c.ssrc
  pub key : row.key ≡ c.key
  pub index_is : row.index ≡ index
  pub header : row.header ≡ h
  pub inner : row.inner ≡ octets

pub is_row-parts : (c : Context) (index : ℕ) (h : Header) (octets : List ℕ) (row : Row) → is_row c index h octets row ≡ true → IsRowOf c index h octets row
is_row-parts c index h octets row all =
    let a : Bool = row.spi == c.spi in
    let b : Bool = row.ssrc == c.ssrc in
    let k : Bool = bytes_eq row.key c.key in
    let n : Bool = row.index == index in
    let g : Bool = same_header row.header h in
    let p5 = and_parts (a && b && k && n && g) (bytes_eq row.inner octets) all in
    let p4 = and_parts (a && b && k && n) g p5.0 in
    let p3 = and_parts (a && b && k) n p4.0 in
    let p2 = and_parts (a && b) k p3.0 in
    let p1 = and_parts a b p2.0 in record {
      spi = eqb-true row.spi c.spi p1.0;
      ssrc = eqb-true row.ssrc c.ssrc p1.1;
      key = (bytes_eq-Decides row.key c.key).0 p2.1;
      index_is = eqb-true row.index index p3.1;
      header = same_header-is row.header h p4.1;
      inner = (bytes_eq-Decides row.inner octets).0 p5.1;
    }

pub is_row-made : (c : Context) (index : ℕ) (h : Header) (octets : List ℕ) (row : Row) → IsRowOf c index h octets row → is_row c index h octets row ≡ true
is_row-made c index h octets row is =
    let b = and_from (row.spi == c.spi) (row.ssrc == c.ssrc) (eq-eqb row.spi c.spi is.spi) (eq-eqb row.ssrc c.ssrc is.ssrc) in
    let k = and_from _ (bytes_eq row.key c.key) b ((bytes_eq-Decides row.key c.key).1 is.key) in
    let n = and_from _ (row.index == index) k (eq-eqb row.index index is.index_is) in
    let g = and_from _ (same_header row.header h) n (same_header-made row.header h is.header) in
    and_from _ (bytes_eq row.inner octets) g ((bytes_eq-Decides row.inner octets).1 is.inner)

pub is_wrap-parts : (spi : ℕ) (octets : List ℕ) (w : Wrap) → is_wrap spi octets w ≡ true → (w.spi ≡ spi) × (w.octets ≡ octets)
is_wrap-parts spi octets w all =
    let p = and_parts (w.spi == spi) (bytes_eq w.octets octets) all in
    (eqb-true w.spi spi p.0, (bytes_eq-Decides w.octets octets).0 p.1)
