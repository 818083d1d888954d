-- What is put back of a header that was changed.
use Rattle.std.proofs.Common.{◌≡◌, ℕ, ◌+◌, ◌^◌, ◌<◌, Bool, true, false, List, [], ◌∷◌, length, map, drop, get_or, Option, Some, None, refl, sym, ap, ◌∙◌, arith}
use Rattle.std.specs.Prelude.{IfSome, IsTrue, cond, ◌==◌}
use Rattle.perc_rtp.specs.Media.{is_payload_type}
use Rattle.std.specs.Option.{unwrap_or}
use Rattle.std.proofs.lemmas.Bool.Decides.{nat_tests}
use Rattle.perc_rtp.specs.Header.{Header, IsHeader, IsPacket, spelling}
use Rattle.std.proofs.lemmas.List.{drop_more}
use Rattle.perc_rtp.specs.Fields.{IsRtp, cut, with_extension}
use Rattle.perc_ohb.specs.declared.block.Ohb.{Ohb}
use Rattle.perc_ohb.specs.declared.rewriting.Change.{Change}
use Rattle.perc_ohb.specs.declared.rewriting.ExtChange.TheVariants.{Keep}
use Rattle.perc_ohb.specs.Block.{IsOhb}
use Rattle.perc_ohb.specs.Rewriting.{IsRewrite, Rewrite, rewrite_of, changed, kept_number, kept_marker, block_after, restored, changed_by, block_by}
use Rattle.perc_rtp.proofs.HeaderLaws.{length-spelling, one_packet, still_reads}

-- what the block keeps gives the original back
number_back : (kept : Option ℕ) (now new : ℕ) → unwrap_or (kept_number kept now new) new ≡ unwrap_or kept now
number_back None now new = grind (arith, nat_tests)
number_back (Some original) now new = grind (arith, nat_tests)

marker_back : (kept : Option Bool) (now new : Bool) → unwrap_or (kept_marker kept now new) new ≡ unwrap_or kept now
marker_back None true true = refl
marker_back None true false = refl
marker_back None false true = refl
marker_back None false false = refl
marker_back (Some true) true true = refl
marker_back (Some true) true false = refl
marker_back (Some true) false true = refl
marker_back (Some true) false false = refl
marker_back (Some false) true true = refl
marker_back (Some false) true false = refl
marker_back (Some false) false true = refl
marker_back (Some false) false false = refl

-- A change and the block after it leave what is put back as it was.
pub restored_after : (h : Header) (o : Ohb) (c : Rewrite) → restored (changed h c) (block_after h o c) ≡ restored h o
restored_after h o c =
    let pt : unwrap_or (block_after h o c).pt (changed h c).pt ≡ unwrap_or o.pt h.pt = number_back o.pt h.pt (changed h c).pt in
    let seq : unwrap_or (block_after h o c).seq (changed h c).seq ≡ unwrap_or o.seq h.seq = number_back o.seq h.seq (changed h c).seq in
    let marker : unwrap_or (block_after h o c).marker (changed h c).marker ≡ unwrap_or o.marker h.marker = marker_back o.marker h.marker (changed h c).marker in
    λ i. record (cut h) { pt = pt i; seq = seq i; marker = marker i }

-- whatever becomes of the extension
pub restored_with : (h : Header) (o : Ohb) (c : Rewrite) (e : Option (ℕ × List ℕ)) → restored (with_extension e (changed h c)) (block_after h o c) ≡ restored h o
restored_with h o c e = restored_after h o c

-- and so does every list of changes
pub restored_after_all : (h : Header) (o : Ohb) (cs : List Rewrite) → restored (changed_by cs h o) (block_by cs h o) ≡ restored h o
restored_after_all h o [] = refl
restored_after_all h o (c ∷ cs) = restored_after_all (changed h c) (block_after h o c) cs ∙ restored_after h o c

-- the same of the packets that begin with these headers
pub restored_same : (g h : Header) (rest after old new : List ℕ) (o p : Ohb) (c : Rewrite) → IsPacket h after new
    → IsPacket (changed g c) rest new → p ≡ block_after g o c → restored h p ≡ restored g o
restored_same g h rest after old new o p c is changed_is kept =
    let header : h ≡ changed g c = (one_packet h (changed g c) after rest new is changed_is).0 in
    ap (λ (k : Header). restored k p) header ∙ ap (λ (b : Ohb). restored (changed g c) b) kept ∙ restored_after g o c

-- What is put back has the length of the cut header.
pub length-restored : (h : Header) (o : Ohb) → length (spelling (restored h o)) ≡ length (spelling (cut h))
length-restored h o = length-spelling (restored h o) ∙ sym (length-spelling (cut h))

-- ---- a list of changes

-- after the first i changes: what is left to do, and what is put back
pub record Ran (changes : List Change) (i : ℕ) (first header : List ℕ) (kept o : Ohb) : Type 0 where
  pub reads : IsRtp header
  pub pt : IfSome o.pt (λ pt. pt < 128)
  pub run : (h : Header) (rest : List ℕ) → IsPacket h rest first
      → (g : Header) × IsPacket g rest header × (changed_by (map rewrite_of (drop i changes)) g o ≡ changed_by (map rewrite_of changes) h kept) × (block_by (map rewrite_of (drop i changes)) g o ≡ block_by (map rewrite_of changes) h kept)
  pub restored : (g h : Header) (rest after : List ℕ) → IsPacket g rest first → IsPacket h after header → restored h o ≡ restored g kept

-- what one rewriting does
pub record Rewrites (c : Rewrite) (old new : List ℕ) (o p : Ohb) : Type 0 where
  pub header : (h : Header) (rest : List ℕ) → IsPacket h rest old → IsPacket (changed h c) rest new
  pub block : (h : Header) (rest : List ℕ) → IsPacket h rest old → p ≡ block_after h o c
  pub restored : (g h : Header) (rest after : List ℕ) → IsPacket g rest old → IsPacket h after new → restored h p ≡ restored g o
  pub kept_pt : IfSome p.pt (λ pt. pt < 128)

-- before the first change
pub ran_none : (changes : List Change) (header : List ℕ) (o : Ohb) → IsRtp header → IfSome o.pt (λ pt. pt < 128) → Ran changes 0 header header o o
ran_none changes header o reads pt = record {
  reads = reads;
  pt = pt;
  run = λ h rest is. (h, is, refl, refl);
  restored = λ g h rest after is also. ap (λ (k : Header). restored k o) (one_packet h g after rest header also is).0;
}

-- the change that does nothing
abbrev pub idle : Change
idle = record { pt = None; shift = 0; marker = None; extension = Keep }

-- and one change more, that at the index j
pub ran_more : (changes : List Change) (i j : ℕ) (first old new : List ℕ) (kept o p : Ohb) → i < length changes → Ran changes i first old kept o
    → Rewrites (rewrite_of (get_or changes j idle)) old new o p → j ≡ i → Ran changes (i + 1) first new kept p
ran_more changes i j first old new kept o p lt ran one same_index =
    let c : Change = get_or changes j idle in
    let next : drop i changes ≡ c ∷ drop (i + 1) changes = drop_more changes i idle lt ∙ ap (λ (k : ℕ). get_or changes k idle ∷ drop (i + 1) changes) (sym same_index) in
    record {
      reads = still_reads (λ h. changed h (rewrite_of c)) old new ran.reads one.header;
      pt = one.kept_pt;
      run = λ h rest is.
          let was = ran.run h rest is in
          let g = was.0 in
          let block = one.block g rest was.1 in (
            changed g (rewrite_of c),
            one.header g rest was.1,
            ap (λ (b : Ohb). changed_by (map rewrite_of (drop (i + 1) changes)) (changed g (rewrite_of c)) b) block ∙ ap (λ (l : List Change). changed_by (map rewrite_of l) g o) (sym next) ∙ was.2,
            ap (λ (b : Ohb). block_by (map rewrite_of (drop (i + 1) changes)) (changed g (rewrite_of c)) b) block ∙ ap (λ (l : List Change). block_by (map rewrite_of l) g o) (sym next) ∙ was.3,
          );
      restored = λ g h rest after is also.
          let was = ran.run g rest is in
          one.restored was.0 h rest after was.1 also ∙ ran.restored g was.0 rest rest is was.1;
    }

-- ---- fields that fit

or_fits : (o : Option ℕ) (x n : ℕ) → IfSome o (λ y. y < n) → x < n → unwrap_or o x < n
or_fits None x n fits h = h
or_fits (Some y) x n fits h = fits

pt_fits : (o : Option ℕ) (x : ℕ) → IfSome o (λ pt. IsTrue (is_payload_type pt)) → x < 128 → unwrap_or o x < 128
pt_fits None x fits h = h
pt_fits (Some y) x fits h = grind (arith, nat_tests)

kept_fits_by : (a b : Bool) (o : Option ℕ) (original n : ℕ) → IfSome o (λ y. y < n) → original < n → IfSome (cond a o (cond b None (Some original))) (λ y. y < n)
kept_fits_by true b o original n fits h = fits
kept_fits_by false true o original n fits h = tt
kept_fits_by false false o original n fits h = h

kept_fits : (o : Option ℕ) (now new n : ℕ) → IfSome o (λ y. y < n) → now < n → IfSome (kept_number o now new) (λ y. y < n)
kept_fits o now new n fits h = kept_fits_by (new == now) (new == unwrap_or o now) o (unwrap_or o now) n fits (or_fits o now n fits h)

-- a header stays one when it is changed, and when originals are put back
pub IsHeader-changed : (h : Header) (c : Rewrite) → IsHeader h → IsRewrite c → IsHeader (changed h c)
IsHeader-changed h c is change = record {
  pt = pt_fits c.pt h.pt change.pt is.pt;
  seq = omega arith;
  timestamp = is.timestamp;
  ssrc = is.ssrc;
  csrc_count = is.csrc_count;
  csrcs = is.csrcs;
  extension = is.extension;
}

pub IsHeader-restored : (h : Header) (o : Ohb) → IsHeader h → IsOhb o → IsHeader (restored h o)
IsHeader-restored h o is block = record {
  pt = or_fits o.pt h.pt 128 block.pt is.pt;
  seq = or_fits o.seq h.seq (2 ^ 16) block.seq is.seq;
  timestamp = is.timestamp;
  ssrc = is.ssrc;
  csrc_count = is.csrc_count;
  csrcs = is.csrcs;
  extension = tt;
}

-- and a block stays one
pub IsOhb-after : (h : Header) (o : Ohb) (c : Rewrite) → IsHeader h → IsOhb o → IsOhb (block_after h o c)
IsOhb-after h o c is block = record {
  pt = kept_fits o.pt h.pt (changed h c).pt 128 block.pt is.pt;
  seq = kept_fits o.seq h.seq (changed h c).seq (2 ^ 16) block.seq is.seq;
}
