use Rattle.std.proofs.Common.{◌≡◌, ℕ, ◌+◌, ◌-◌, ◌*◌, List, [], ◌++◌, length, drop, set, refl, ap, ◌∙◌, arith}
use Rattle.byteorder.specs.Endian.{big_bytes}
use borrow.Rule.Slice.PartMut.{put_mid}
use Rattle.perc_base.specs.Profile.{profile_number, key_length}
use Rattle.perc_tunnel.specs.Message.{MediaKeys, body, counted}
use Rattle.perc_tunnel.proofs.Written.{keys_written}
use Rattle.perc_tunnel.proofs.writing.write_keys.Goals as goal

pub returns : goal.returns
unfolding body
returns c =
    let keys = c.args.keys.now in
    let old = c.args.out.now in
    let k = c.key_len-key_len.result in
    let k-is : k ≡ key_length keys.profile = c.key_len-key_len.ensures in
    let a = keys.association in
    let n-is : c.number.result ≡ profile_number keys.profile = c.number.ensures in
    let client = c.requires.message.1 in
    let server = c.requires.message.2 in
    let ck : length c.key.result.now ≡ k = omega (arith, ap length c.key.ensures.value, client.key, server.key, k-is) in
    let sk : length c.key-2.result.now ≡ k = omega (arith, ap length c.key-2.ensures.value, client.key, server.key, k-is) in
    let cs : length c.salt.result.now ≡ 12 = omega (arith, ap length c.salt.ensures, client.salt, server.salt) in
    let ss : length c.salt-2.result.now ≡ 12 = omega (arith, ap length c.salt-2.ensures, client.salt, server.salt) in
    let o1 = c.write_named.new.out in
    let o2 : List ℕ = set o1 18 0 in
    let o3 : List ℕ = put_mid 19 (length o2 - 19) o2 c.write_counted.new.out in
    let o4 : List ℕ = put_mid (20 + k) (length o3 - (20 + k)) o3 c.write_counted-2.new.out in
    let o5 : List ℕ = put_mid (21 + 2 * k) (length o4 - (21 + 2 * k)) o4 c.write_counted-3.new.out in
    let whole = keys_written a c.key.result.now c.key-2.result.now c.salt.result.now c.salt-2.result.now old o1
    c.write_counted.new.out c.write_counted-2.new.out c.write_counted-3.new.out c.write_counted-4.new.out c.number.result k
    c.requires.message.0.0 ck sk cs ss (omega (arith, k-is, c.requires.room)) c.write_named.ensures c.write_counted.ensures c.write_counted-2.ensures o4 refl
    c.write_counted-3.ensures o5 refl c.write_counted-4.ensures in
    whole
    ∙ ap
    (λ (n : ℕ). (a ++ big_bytes 2 n ++ counted [] ++ counted c.key.result.now ++ counted c.key-2.result.now ++ counted c.salt.result.now
    ++ counted c.salt-2.result.now) ++ drop (47 + 2 * k) old) n-is
    ∙ (λ i. body (MediaKeys a keys.profile
    (record { key = c.key.ensures.value i; salt = c.salt.ensures i })
    (record { key = c.key-2.ensures.value i; salt = c.salt-2.ensures i })) ++ drop (47 + 2 * k-is i) old)
