-- A member of the code that was just started.
use Rattle.std.proofs.Common.{◌≡◌, ℕ, ◌+◌, ◌%◌, ◌^◌, ◌<◌, List, [], ◌∷◌, true, length, map, None, Vec, Global, refl, sym, ap, subst, ◌∙◌, arith}
use Rattle.std.specs.List.{last_or}
use Rattle.perc_base.specs.declared.profile.Profile.{Profile}
use Rattle.perc_kdf.specs.Derivation.{session_keys}
use Rattle.perc_kdf.specs.declared.Kind.TheVariants.{Srtp}
use Rattle.perc_window.specs.Index.{nearest}
use Rattle.perc_receiver.specs.Table.{Secret}
use Rattle.perc_outgoing.specs.Sending.{outer_index}
use Rattle.perc_endpoint.specs.Endpoint.{started}
use Rattle.perc_endpoint.specs.Kept as endpoint
use Rattle.perc_member.specs.declared.member.Newcomer.{Newcomer}
use Rattle.perc_member.specs.declared.member.TakenKey.{TakenKey}
use Rattle.perc_member.specs.declared.opening.Opening.{Opening}
use Rattle.perc_member.specs.Each.{CountsFrom, EndsAt, taken_in}
use Rattle.perc_member.specs.Making.{StartsAs, begun}

-- What the code made.
pub record IsMade (profile : Profile) (n : Newcomer) (association : List ℕ) (secret : Secret) (kept : endpoint.Kept) (opening : Opening) (key : List ℕ) (first : ℕ) (sends : List ℕ) (keys : List TakenKey) : Type 0 where
  pub stands : endpoint.StandsFor kept (started profile n.ssrc first n.client n.server secret key)
  pub key_is : key ≡ n.key
  pub opening_keys : opening.keys ≡ session_keys n.client Srtp
  pub opening_next : opening.next ≡ n.seq
  pub below : opening.next < 2 ^ 16
  pub first_is : first ≡ n.seq
  pub sends_are : sends ≡ []
  pub keys_are : keys ≡ record { spi = secret.spi; key = n.key; sent = None } ∷ []

first_outer : (profile : Profile) (n : Newcomer) (association : List ℕ) (secret : Secret) → outer_index (begun profile n association secret).endpoint.sending ≡ n.seq % 65536
unfolding nearest
first_outer profile n association secret = refl

pub starts : (profile : Profile) (n : Newcomer) (association : List ℕ) (secret : Secret) (kept : endpoint.Kept) (opening : Opening) (key : List ℕ) (first : ℕ) (sends : Vec ℕ Global) (keys : Vec TakenKey Global)
    → IsMade profile n association secret kept opening key first sends.items keys.items
    → StartsAs profile n association secret (record {
      name = n.name;
      association = association;
      ssrc = n.ssrc;
      client = n.client;
      server = n.server;
      endpoint = kept;
      opening = opening;
      present = true;
      first = first;
      sends = sends;
      keys = keys;
    })
starts profile n association secret kept opening key first sends keys made =
    let with_first = subst (λ (f : ℕ). endpoint.StandsFor kept (started profile n.ssrc f n.client n.server secret key)) made.first_is made.stands in
    let stands = subst (λ (k : List ℕ). endpoint.StandsFor kept (started profile n.ssrc n.seq n.client n.server secret k)) made.key_is with_first in
    let low : opening.next ≡ n.seq % 65536 = omega (arith, made.opening_next, made.below) in
    record {
      mirrors = record {
        name = refl;
        association = refl;
        ssrc = refl;
        client = refl;
        server = refl;
        endpoint = stands;
        opening_keys = made.opening_keys;
        opening_next = low ∙ sym (first_outer profile n association secret);
        present = refl;
        next = omega (arith, made.first_is, ap length made.sends_are);
        keys = ap (map taken_in) made.keys_are;
        last = subst (λ (ks : List TakenKey). EndsAt n.seq (last_or None ks)) (sym made.keys_are) tt;
        counted = subst (λ (ks : List TakenKey). CountsFrom (begun profile n association secret).endpoint.sending.sending (last_or None ks)) (sym made.keys_are) refl;
      };
      first = made.first_is;
      sends = made.sends_are;
      keys = made.keys_are;
    }
