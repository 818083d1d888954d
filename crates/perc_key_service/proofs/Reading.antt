-- The next message of a decoder that holds one whole, and the replies to a hello as a decoder reads them.
use Rattle.std.specs.List.{flat_map}
use Rattle.std.specs.Option.{option_map}
use Rattle.std.specs.Prelude.{Option, Some, None, is_some, min, Result, Ok, Err}
use Rattle.std.proofs.Common.{◌≡◌, ℕ, suc, ◌+◌, ◌*◌, ◌-◌, ◌≤◌, ◌^◌, true, List, [], ◌∷◌, ◌++◌, length, take, inl, inr, refl, sym, ap, subst, ◌∙◌, append-nil, arith}
use Rattle.std.proofs.Math.Seq.{take-length}
use Rattle.std.proofs.lemmas.List.{length-append}
use Rattle.byteorder.specs.Endian.{big_bytes}
use Rattle.perc_base.specs.Profile.{key_length, profile_number}
use Rattle.perc_base.specs.declared.profile.Profile.TheVariants.{Aes128, Aes256}
use Rattle.perc_ekt.specs.Record.{record_octets}
use Rattle.perc_ekt.proofs.Records.{octets-length}
use Rattle.perc_tunnel.proofs.Written.{spelling-length}
use Rattle.perc_base.specs.declared.profile.Profile.{Profile}
use Rattle.perc_ekt.specs.declared.record.EktKeyRecord.{EktKeyRecord}
use Rattle.perc_kdf.specs.Derivation.{KeyAndSalt}
use Rattle.perc_tunnel.specs.declared.decoder.TunnelFault.{TunnelFault}
use Rattle.perc_tunnel.specs.declared.message.Message.{Message}
use Rattle.perc_tunnel.specs.declared.message.MediaKeys.{MediaKeys}
use Rattle.perc_tunnel.specs.Decoding.{Decoding, Decodes, IsFault, fed, fresh, taken}
use Rattle.perc_octets.specs.Octets.{AreOctets}
use Rattle.perc_octets.proofs.Octets.{AreOctets-cons, AreOctets-nil}
use Rattle.perc_tunnel.specs.Message.{TunnelMessage, TunneledDtls, IsHalf, IsMessage, body, counted, spelling, type_of}
use Rattle.perc_tunnel.specs.Told.{answered, content_of, keys_message}
use Rattle.perc_tunnel.proofs.Streams.{no_part_begins, one_message}
use Rattle.perc_keydist.specs.declared.record.ClearRecord.{ClearRecord}
use Rattle.perc_keydist.specs.Answers.{clear_answers}
use Rattle.perc_keydist.specs.ClearRecord as clear
use Rattle.perc_keydist.specs.ClearRecord.{Record, Welcome, half_octets, handshake, record_in}
use Rattle.perc_keydist.specs.Told as told
use Rattle.perc_keydist.proofs.RecordLaws.{clear_reads}
use Rattle.perc_key_service.specs.declared.service.Joined.{Joined}
use Rattle.perc_key_service.specs.Replies.{AreReplies, Holds, record_told}

pub as_ok : {x y : Option Message} → x ≡ y → ◌≡◌ {A = Result (Option Message) TunnelFault} (Ok x) (Ok y)
as_ok e = ap (λ (z : Option Message). Ok z) e

module _ (m : TunnelMessage) (rest : List ℕ) (old new : Decoding) (holds : Holds m rest old) (result : Result (Option Message) TunnelFault)
    (decodes : Decodes old (answered result) new) where
  -- a message is the one that is held
  pub is_held : (message : Message) → result ≡ Ok (Some message) → (m ≡ content_of message) × (rest ≡ new.held) × (new.fault ≡ None)
  is_held message is =
      let d : Decodes old (Ok (Some (content_of message))) new = subst (λ (r : Result (Option Message) TunnelFault). Decodes old (answered r) new) is decodes in
      let one = one_message m (content_of message) rest new.held holds.is d.1 (sym holds.octets ∙ d.2) in
      (one.0, one.1, d.4)

  -- and there is one
  pub not_none : result ≡ Ok None → ⊥
  not_none is =
      let d : Decodes old (Ok None) new = subst (λ (r : Result (Option Message) TunnelFault). Decodes old (answered r) new) is decodes in
      no_part_begins old.held (m, rest, holds.is, holds.octets) d.1

  pub not_wrong : (f : TunnelFault) → result ≡ Err f → ⊥
  not_wrong f is =
      let d : Decodes old (Err f) new = subst (λ (r : Result (Option Message) TunnelFault). Decodes old (answered r) new) is decodes in
      elim d.1 [ inl e ↦ (let never = sym holds.no_fault ∙ e in absurd cc) | inr w ↦ w.no_message (m, rest, holds.is, holds.octets) ]

-- ---- the octets of the parts

all_left : (xs ys : List ℕ) → AreOctets (xs ++ ys) → AreOctets xs
all_left [] ys all = AreOctets-nil
all_left (x ∷ xs) ys all = AreOctets-cons x xs (all 0) (all_left xs ys (λ k. all (suc k)))

all_right : (xs ys : List ℕ) → AreOctets (xs ++ ys) → AreOctets ys
all_right [] ys all = all
all_right (x ∷ xs) ys all = all_right xs ys (λ k. all (suc k))

behind_one : (x : ℕ) (xs : List ℕ) → AreOctets (x ∷ xs) → AreOctets xs
behind_one x xs all = λ k. all (suc k)

body_octets : (m : TunnelMessage) → AreOctets (spelling m) → AreOctets (body m)
unfolding spelling
body_octets m all = all_right (big_bytes 2 (length (body m))) (body m) (behind_one (type_of m) (big_bytes 2 (length (body m)) ++ body m) all)

-- the octets of a name, and of two keys with their salts
pub record PartOctets (name ck sk cs ss : List ℕ) : Type 0 where
  pub association : AreOctets name
  pub client_key : AreOctets ck
  pub server_key : AreOctets sk
  pub client_salt : AreOctets cs
  pub server_salt : AreOctets ss

seven : (a n z ck sk cs ss : List ℕ) (c d e f : ℕ) → AreOctets (a ++ n ++ z ++ (c ∷ ck) ++ (d ∷ sk) ++ (e ∷ cs) ++ (f ∷ ss)) → PartOctets a ck sk cs ss
seven a n z ck sk cs ss c d e f all =
    let all6 = all_left (a ++ n ++ z ++ (c ∷ ck) ++ (d ∷ sk) ++ (e ∷ cs)) (f ∷ ss) all in
    let all5 = all_left (a ++ n ++ z ++ (c ∷ ck) ++ (d ∷ sk)) (e ∷ cs) all6 in
    let all4 = all_left (a ++ n ++ z ++ (c ∷ ck)) (d ∷ sk) all5 in
    let all3 = all_left (a ++ n ++ z) (c ∷ ck) all4 in
    let all2 = all_left (a ++ n) z all3 in
    record {
      association = all_left a n all2;
      client_key = behind_one c ck (all_right (a ++ n ++ z) (c ∷ ck) all4);
      server_key = behind_one d sk (all_right (a ++ n ++ z ++ (c ∷ ck)) (d ∷ sk) all5);
      client_salt = behind_one e cs (all_right (a ++ n ++ z ++ (c ∷ ck) ++ (d ∷ sk)) (e ∷ cs) all6);
      server_salt = behind_one f ss (all_right (a ++ n ++ z ++ (c ∷ ck) ++ (d ∷ sk) ++ (e ∷ cs)) (f ∷ ss) all);
    }

keys_octets : (k : MediaKeys) → AreOctets (body (keys_message k)) → PartOctets k.association k.client.key k.server.key k.client.salt k.server.salt
unfolding body
keys_octets k all = seven k.association (big_bytes 2 (profile_number k.profile)) (counted []) k.client.key k.server.key k.client.salt k.server.salt (length k.client.key) (length k.server.key) (length k.client.salt) (length k.server.salt) all

record_octets_of : (association octets : List ℕ) → AreOctets (body (TunneledDtls association octets)) → AreOctets octets
unfolding body
record_octets_of association octets all = all_right (association ++ big_bytes 2 (length octets)) octets all

-- ---- lengths

half-length : (n : ℕ) (half : KeyAndSalt) → length half.key ≡ n → length half.salt ≡ 12 → length (half_octets half) ≡ n + 12
half-length n half key_size salt_size = length-append half.key half.salt ∙ sum (length half.key) (length half.salt) n key_size salt_size where
  sum : (a b n : ℕ) → a ≡ n → b ≡ 12 → a + b ≡ n + 12
  sum a b n e f = omega arith

welcome-length : (p : Profile) (client server : KeyAndSalt) (granted : EktKeyRecord) (a b c : ℕ) → length (half_octets client) ≡ a
    → length (half_octets server) ≡ b → length (record_octets granted) ≡ c
    → length (clear.spelling p (Welcome client server granted)) ≡ 8 + ((a + b) + c)
unfolding clear.spelling
welcome-length p client server granted a b c e f g =
    let front : List ℕ = handshake 2 ++ big_bytes 2 (profile_number p) in
    let halves : List ℕ = half_octets client ++ half_octets server in
    length-append front (halves ++ record_octets granted)
    ∙ sum (length (halves ++ record_octets granted)) (length halves) (length (half_octets client)) (length (half_octets server)) (length (record_octets granted)) a b c
    (length-append halves (record_octets granted)) (length-append (half_octets client) (half_octets server)) e f g where
      sum : (w h x y z a b c : ℕ) → w ≡ h + z → h ≡ x + y → x ≡ a → y ≡ b → z ≡ c → 8 + w ≡ 8 + ((a + b) + c)
      sum w h x y z a b c s t e f g = omega arith

-- ---- the replies

module _ (p : Profile) (k : MediaKeys) (granted : EktKeyRecord) (octets : List ℕ) (all : AreOctets octets) (are : AreReplies p k granted octets) where
  abbrev welcome : List ℕ
  welcome = clear_answers.welcome k granted

  abbrev second : TunnelMessage
  second = TunneledDtls k.association welcome

  both : AreOctets (spelling (keys_message k) ++ (spelling second ++ []))
  both = subst AreOctets are.spelled all

  parts : PartOctets k.association k.client.key k.server.key k.client.salt k.server.salt
  parts = keys_octets k (body_octets (keys_message k) (all_left (spelling (keys_message k)) (spelling second ++ []) both))

  welcome_octets : AreOctets welcome
  welcome_octets =
      record_octets_of k.association welcome (body_octets second (all_left (spelling second) [] (all_right (spelling (keys_message k)) (spelling second ++ []) both)))

  n_few : (q : Profile) → key_length q ≤ 32
  n_few Aes128 = omega arith
  n_few Aes256 = omega arith

  welcome_size : length welcome ≡ 8 + (((key_length p + 12) + (key_length p + 12)) + (key_length p + 21))
  welcome_size = welcome-length k.profile k.client k.server granted _ _ _ (half-length (key_length p) k.client are.client_size are.client_salt)
      (half-length (key_length p) k.server are.server_size are.server_salt) (octets-length granted are.right ∙ ap (λ (n : ℕ). n + 21) are.granted_size)

  client_half : (q : Profile) → q ≡ p → IsHalf q k.client
  client_half q is = record { key = are.client_size ∙ sym (ap key_length is); salt = are.client_salt; key_octets = parts.client_key; salt_octets = parts.client_salt }

  server_half : (q : Profile) → q ≡ p → IsHalf q k.server
  server_half q is = record { key = are.server_size ∙ sym (ap key_length is); salt = are.server_salt; key_octets = parts.server_key; salt_octets = parts.server_salt }

  keys_message_is : IsMessage (keys_message k)
  keys_message_is = ((are.association_size, parts.association), client_half k.profile are.profile_is, server_half k.profile are.profile_is)

  second_is : IsMessage second
  second_is = ((are.association_size, parts.association), some (length welcome) (key_length p) welcome_size, few (length welcome) (key_length p) welcome_size (n_few p), welcome_octets) where
    some : (w n : ℕ) → w ≡ 8 + (((n + 12) + (n + 12)) + (n + 21)) → 1 ≤ w
    some w n e = omega arith

    few : (w n : ℕ) → w ≡ 8 + (((n + 12) + (n + 12)) + (n + 21)) → n ≤ 32 → w ≤ 65517
    few w n e h = omega arith

  octets_few : length octets ≤ 512
  octets_few =
      sum (length octets) (length (spelling (keys_message k))) (length (spelling second ++ [])) (length (spelling second)) (length welcome) (key_length k.profile) (key_length p)
      (ap length are.spelled ∙ length-append (spelling (keys_message k)) (spelling second ++ [])) (spelling-length (keys_message k) keys_message_is)
      (ap length (append-nil (spelling second))) (spelling-length second second_is) welcome_size (ap key_length are.profile_is) (n_few p) where
        sum : (all a b c w m n : ℕ) → all ≡ a + b → a ≡ 3 + (47 + 2 * m) → b ≡ c → c ≡ 3 + (18 + w) → w ≡ 8 + (((n + 12) + (n + 12)) + (n + 21)) → m ≡ n → n ≤ 32 → all ≤ 512
        sum all a b c w m n e f g h i j few = omega arith

  all_taken : taken fresh (length octets) ≡ length octets
  all_taken = fits (length octets) octets_few where
    fits : (n : ℕ) → n ≤ 512 → min n (min (65538 - 0) (2 ^ 64 - 1 - (0 + 0))) ≡ n
    fits n few = omega (arith, few)

  pub holds_keys : (d : Decoding) → d ≡ fed fresh octets → Holds (keys_message k) (spelling second ++ []) d
  holds_keys d is = subst (λ (e : Decoding). Holds (keys_message k) (spelling second ++ []) e) (sym is) (record {
    no_fault = refl;
    is = keys_message_is;
    octets = ap (λ (n : ℕ). take n octets) all_taken ∙ take-length octets ∙ are.spelled;
  })

  pub holds_welcome : (d : Decoding) → d.held ≡ spelling second ++ [] → d.fault ≡ None → Holds second [] d
  holds_welcome d held no_fault = record { no_fault = no_fault; is = second_is; octets = held }

  pub welcome_is : record_told p second ≡ Some (Welcome k.client k.server granted)
  welcome_is =
      ap (λ (q : Profile). record_in p (clear.spelling q (Welcome k.client k.server granted))) are.profile_is
      ∙ clear_reads p (Welcome k.client k.server granted) (client_half p refl, server_half p refl, are.right, are.granted_size)

pub told_some : (o : Option ClearRecord) (w : Record) → option_map told.content_of o ≡ Some w → is_some o ≡ true
told_some (Some r) w e = refl
told_some None w e = absurd cc

pub told_is : (o : Option ClearRecord) (r : ClearRecord) (w : Record) → o ≡ Some r → option_map told.content_of o ≡ Some w → told.content_of r ≡ w
told_is o r w is e = some_same (told.content_of r) w (sym (ap (option_map told.content_of) is) ∙ e) where
  some_same : (x y : Record) → ◌≡◌ {A = Option Record} (Some x) (Some y) → x ≡ y
  some_same x y e = cc

pub joined_is : (k m : MediaKeys) (o : Option MediaKeys) → o ≡ Some k → o ≡ Some m → (j : Joined) (client server : KeyAndSalt) (granted : EktKeyRecord)
    → j ≡ record { keys = k; client = client; server = server; granted = granted } → j ≡ record { keys = m; client = client; server = server; granted = granted }
joined_is k m o is known j client server granted e = e ∙ ap (λ (n : MediaKeys). record { keys = n; client = client; server = server; granted = granted }) (same k m (sym is ∙ known)) where
  same : (x y : MediaKeys) → ◌≡◌ {A = Option MediaKeys} (Some x) (Some y) → x ≡ y
  same x y f = cc
