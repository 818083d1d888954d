-- What an opened packet is made of are octets, where the datagram is.
use Rattle.std.proofs.Common.{◌≡◌, ℕ, ◌+◌, ◌<◌, List, ◌++◌, length, get_or, inl, inr, refl, sym, subst, ◌∙◌, arith}
use Rattle.std.specs.List.{All}
use Rattle.std.proofs.lemmas.Bool.{cases_lt}
use Rattle.std.proofs.lemmas.List.{get_or-append-add, get_or_append_left, get_or_past}
use Rattle.std.proofs.lemmas.List.Elements.{All-from_get_or}
use Rattle.perc_kdf.specs.Derivation.{IsSession, KeyAndSalt}
use Rattle.perc_rtp.specs.Header.{Header, IsOctet, spelling}
use Rattle.perc_gcm.specs.Gcm.{ciphertext, tag}
use Rattle.perc_gcm.proofs.GcmLaws.{ciphertext_octets, ciphertext_twice, sealed_as}
use Rattle.perc_srtp.specs.Sealed.{iv, sealed_body}
use Rattle.perc_srtp.proofs.PacketLaws.{iv_octets, length-iv}

abbrev pub Below : List ℕ → Type 0
Below xs = (k : ℕ) → get_or xs k 0 < 256

pub below_all : (xs : List ℕ) → Below xs → All IsOctet xs
below_all xs below = All-from_get_or IsOctet xs 0 (λ i within. below i)

pub below_front : (xs ys zs : List ℕ) → zs ≡ xs ++ ys → Below zs → Below xs
below_front xs ys zs is below k =
    elim (cases_lt k (length xs)) [
      | inl inside ↦ rw (← get_or_append_left xs ys 0 k inside) (subst Below is below k)
      | inr past ↦ rw (get_or_past xs k 0 past) (omega arith)
    ]

pub below_back : (xs ys zs : List ℕ) → zs ≡ xs ++ ys → Below zs → Below ys
below_back xs ys zs is below k = rw (← get_or-append-add xs ys k 0) (subst Below is below (length xs + k))

-- what was sealed to octets are octets
pub sealed_of_octets : (keys : KeyAndSalt) (index : ℕ) (h : Header) (rest body : List ℕ) → IsSession keys → rest ≡ sealed_body keys index h body → Below rest → Below body
unfolding sealed_body
sealed_of_octets keys index h rest body session is below =
    let v : List ℕ = iv keys.salt h.ssrc index in
    let c : List ℕ = ciphertext keys.key v body in
    let t : List ℕ = tag keys.key v (spelling h) c in
    let octets : Below c = below_front c t rest (is ∙ sym (sealed_as keys.key v (spelling h) body c t refl refl)) below in
    subst Below (ciphertext_twice keys.key v body)
    (ciphertext_octets keys.key v c session.key (length-iv keys.salt h.ssrc index) (iv_octets keys.salt h.ssrc index session.salt_octets) octets)
