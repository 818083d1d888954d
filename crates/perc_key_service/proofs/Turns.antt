-- The turns of the events of a script.
use Rattle.std.specs.Option.{option_map_or}
use Rattle.std.specs.Prelude.{Option, Some, None, Ok, is_some, nat_le, replicate}
use Rattle.std.proofs.Common.{◌≡◌, ℕ, ◌+◌, ◌-◌, ◌^◌, ◌<◌, ◌≤◌, Bool, true, false, eqb, List, [], ◌∷◌, ◌++◌, length, take, drop, refl, sym, ap, subst, ◌∙◌, append-nil, append_assoc, arith}
use Rattle.std.proofs.lemmas.Bool.{cond-true, cond-false, eq-eqb}
use Rattle.std.proofs.lemmas.Bool.Decides.{nat_tests}
use Rattle.std.proofs.lemmas.List.{take_at, drop_at, length-append}
use Rattle.perc_base.specs.Outside.{drawn}
use Rattle.perc_base.specs.Profile.{key_length, profile_number}
use Rattle.perc_base.specs.declared.profile.Profile.{Profile}
use Rattle.perc_base.specs.declared.profile.Profile.TheVariants.{Aes128, Aes256}
use Rattle.perc_kdf.specs.Derivation.{KeyAndSalt}
use Rattle.perc_ekt.specs.declared.record.EktKeyRecord.{EktKeyRecord}
use Rattle.perc_tunnel.specs.declared.message.MediaKeys.{MediaKeys}
use Rattle.perc_tunnel.specs.Message.{SupportedProfiles, TunneledDtls, EndpointDisconnect, Fits}
use Rattle.perc_keeper.specs.Lists.{Lists, is_member, member_of, newest, spi_of, with_issued, with_member, without_member}
use Rattle.perc_keydist.specs.declared.handshake.Hello as declared
use Rattle.perc_keydist.specs.declared.handshake.Hello.TheVariants.{Join}
use Rattle.perc_keydist.specs.Answers.{brought, clear_answers}
use Rattle.perc_keydist.specs.ClearRecord.{Hello, record_in, spelling}
use Rattle.perc_keydist.specs.Distributing.{Part, Replying, State, Turn, admitting, behind_keys, behind_pair, drawn_keys, drawn_pair, drawn_record, ended, grant, granting}
use Rattle.perc_keydist.specs.Distributing.{hear, issue, issuing, join, join_of, joining, next_spi, quiet, record_heard, repeats, silent, turn_of, welcomed, welcoming}
use Rattle.perc_keydist.specs.KeyDistributor.{KeyDistributor, anew, state_of}
use Rattle.perc_keydist.proofs.RecordLaws.{clear_reads}
use Rattle.perc_keydist.proofs.Joining.{has_room}
use Rattle.perc_key_service.specs.Hearing.{turn_at}
use Rattle.perc_key_service.specs.Service.{MayIssue, MayJoin, issued_as, keys_as}
use Rattle.perc_key_service.specs.Serving.{both, octets_of, service_of}

-- ---- profiles are offered, and a member leaves

pub offered_turn : (p : Profile) (l : Lists) (randoms : List ℕ)
    → turn_at (anew p) l (SupportedProfiles 0 both) randoms ≡ quiet (record (state_of (anew p) l) { accepted = Some both }) randoms
offered_turn p l randoms = refl

pub ended_turn : (k : KeyDistributor) (l : Lists) (randoms association : List ℕ) → k.accepted ≡ Some both → is_member l.members association ≡ true
    → turn_at k l (EndpointDisconnect association) randoms ≡ quiet (record (state_of k l) { lists = without_member association l; left = 0 + 1 }) randoms
ended_turn k l randoms association accepts member =
    ap (hear clear_answers (state_of k l) randoms (EndpointDisconnect association)) accepts
    ∙ cond-true (is_member l.members association) (quiet (record (state_of k l) { lists = without_member association l; left = 0 + 1 }) randoms) (quiet (state_of k l) randoms) member

-- ---- what is drawn

drawn_front : (n : ℕ) (xs ys : List ℕ) → length xs ≡ n → drawn n (xs ++ ys) ≡ xs
drawn_front n xs ys size =
    ap (λ (front : List ℕ). front ++ replicate (n - length (xs ++ ys)) 0) (take_at xs ys n size)
    ∙ ap (λ (m : ℕ). xs ++ replicate m 0) none ∙ append-nil xs where
      none : n - length (xs ++ ys) ≡ 0
      none = let all = length-append xs ys in omega (arith, all, size)

pair_front : (n : ℕ) (pair : KeyAndSalt) (rest : List ℕ) → length pair.key ≡ n → length pair.salt ≡ 12 → drawn_pair n (octets_of pair ++ rest) ≡ pair
pair_front n pair rest key_size salt_size =
    let whole : octets_of pair ++ rest ≡ pair.key ++ (pair.salt ++ rest) = append_assoc pair.key pair.salt rest in
    let key : drawn n (octets_of pair ++ rest) ≡ pair.key = ap (drawn n) whole ∙ drawn_front n pair.key (pair.salt ++ rest) key_size in
    let salt : drawn 12 (drop n (octets_of pair ++ rest)) ≡ pair.salt =
    ap (λ (xs : List ℕ). drawn 12 (drop n xs)) whole ∙ ap (drawn 12) (drop_at pair.key (pair.salt ++ rest) n key_size) ∙ drawn_front 12 pair.salt rest salt_size in
    λ i. record { key = key i; salt = salt i }

pair_behind : (n : ℕ) (pair : KeyAndSalt) (rest : List ℕ) → length pair.key ≡ n → length pair.salt ≡ 12 → behind_pair n (octets_of pair ++ rest) ≡ rest
pair_behind n pair rest key_size salt_size =
    ap (λ (xs : List ℕ). drop 12 (drop n xs)) (append_assoc pair.key pair.salt rest) ∙ ap (drop 12) (drop_at pair.key (pair.salt ++ rest) n key_size) ∙ drop_at pair.salt rest 12 salt_size

pair_alone : (n : ℕ) (pair : KeyAndSalt) → length pair.key ≡ n → length pair.salt ≡ 12 → drawn_pair n (octets_of pair) ≡ pair
pair_alone n pair key_size salt_size = ap (drawn_pair n) (sym (append-nil (octets_of pair))) ∙ pair_front n pair [] key_size salt_size

-- ---- an association joins

taken_hello : (p : Profile) → clear_answers.taken (spelling p (Hello (profile_number p))) ≡ Join (profile_number p)
unfolding spelling
taken_hello p = ap brought (clear_reads Aes128 (Hello (profile_number p)) (fits p)) where
  fits : (q : Profile) → profile_number q < 2 ^ 16
  fits Aes128 = omega arith
  fits Aes256 = omega arith

wanted : (p : Profile) (association : List ℕ) (l : Lists) (randoms : List ℕ)
    → record_heard clear_answers p both association l randoms (Join (profile_number p)) ≡ join clear_answers p association l randoms
wanted Aes128 association l randoms = refl
wanted Aes256 association l randoms = refl

module _ (k : KeyDistributor) (l : Lists) (association : List ℕ) (client server : KeyAndSalt) (granted : EktKeyRecord) (may : MayJoin (service_of k l) association client server granted)
    (client_salt : length client.salt ≡ 12) (server_salt : length server.salt ≡ 12) (randoms : List ℕ) (draws : randoms ≡ octets_of client ++ octets_of server) where
  abbrev p : Profile
  p = k.profile

  abbrev keys : MediaKeys
  keys = keys_as (service_of k l) association client server

  keys_are : drawn_keys p association randoms ≡ keys
  keys_are =
      let first : drawn_pair (key_length p) randoms ≡ client = ap (drawn_pair (key_length p)) draws ∙ pair_front (key_length p) client (octets_of server) may.client_size client_salt in
      let second : drawn_pair (key_length p) (behind_pair (key_length p) randoms) ≡ server =
      ap (λ (xs : List ℕ). drawn_pair (key_length p) (behind_pair (key_length p) xs)) draws
      ∙ ap (drawn_pair (key_length p)) (pair_behind (key_length p) client (octets_of server) may.client_size client_salt)
      ∙ pair_alone (key_length p) server may.server_size server_salt in
      λ i. record { association = association; profile = p; client = first i; server = second i }

  abbrev admitted : Part MediaKeys
  admitted = record { answer = Ok keys; lists = with_member keys l; randoms = behind_keys p randoms }

  admitted_is : admitting l (drawn_keys p association randoms) (behind_keys p randoms) ≡ admitted
  admitted_is =
      ap (λ (k : MediaKeys). admitting l k (behind_keys p randoms)) keys_are
      ∙ cond-false (repeats keys l) (record { answer = _; lists = l; randoms = behind_keys p randoms }) admitted may.unused

  abbrev granted_part : Part EktKeyRecord
  granted_part = record { answer = Ok granted; lists = l; randoms = randoms }

  granted_is : grant p l randoms ≡ granted_part
  granted_is = ap (granting p l randoms) may.newest_is
      ∙ cond-true (eqb granted.len (key_length p)) granted_part (issue p l randoms) (eq-eqb granted.len (key_length p) may.granted_size)

  abbrev replying : Replying
  replying = record { answer = Ok (welcomed clear_answers keys granted); lists = with_member keys l; randoms = behind_keys p randoms }

  join_is : join clear_answers p association l randoms ≡ replying
  join_is =
      ap (join_of clear_answers p association l randoms) may.stranger
      ∙ cond-false (nat_le 64 (length l.members)) (silent l randoms) (joining clear_answers p association (grant p l randoms)) (has_room (length l.members) (length l.members) refl may.room)
      ∙ ap (joining clear_answers p association) granted_is ∙ ap (welcoming clear_answers granted) admitted_is

  abbrev joined : Turn
  joined = record {
    replies = welcomed clear_answers keys granted;
    state = record (state_of k l) { lists = with_member keys l };
    randoms = behind_keys p randoms;
    fault = None;
  }

  pub joined_turn : (octets : List ℕ) → k.accepted ≡ Some both → octets ≡ spelling p (Hello (profile_number p)) → turn_at k l (TunneledDtls association octets) randoms ≡ joined
  joined_turn octets accepts spelled =
      let s = state_of k l in
      let taken : clear_answers.taken octets ≡ Join (profile_number p) = ap clear_answers.taken spelled ∙ taken_hello p in
      ap (hear clear_answers s randoms (TunneledDtls association octets)) accepts
      ∙ ap (λ (h : declared.Hello). turn_of s (record_heard clear_answers p both association l randoms h)) taken ∙ ap (turn_of s) (wanted p association l randoms) ∙ ap (turn_of s) join_is

-- ---- a key is issued

module _ (k : KeyDistributor) (l : Lists) (key salt : List ℕ) (may : MayIssue (service_of k l) key) (size : length salt ≡ 12) (randoms : List ℕ) (draws : randoms ≡ key ++ salt) where
  abbrev pair : KeyAndSalt
  pair = record { key = key; salt = salt }

  abbrev issued : EktKeyRecord
  issued = issued_as (service_of k l) key salt

  abbrev rest : List ℕ
  rest = behind_pair (key_length k.profile) randoms

  pub issue_is : issue k.profile l randoms ≡ record { answer = Ok issued; lists = with_issued issued l; randoms = rest }
  issue_is =
      cond-false (nat_le 65536 (next_spi l.issued)) (record { answer = _; lists = l; randoms = randoms }) (issuing k.profile l (drawn_pair (key_length k.profile) randoms) rest) (below (next_spi l.issued) may.left)
      ∙ ap (λ (q : KeyAndSalt). issuing k.profile l q rest) (ap (drawn_pair (key_length k.profile)) draws ∙ pair_alone (key_length k.profile) pair may.size size)
      ∙ cond-false (is_some (spi_of l.issued key)) (record { answer = _; lists = l; randoms = rest }) (record { answer = Ok issued; lists = with_issued issued l; randoms = rest }) (ap is_some may.unused)
    where
      below : (n : ℕ) → n ≤ 65535 → nat_le 65536 n ≡ false
      below n few = grind (arith, nat_tests)

-- ---- what the turns leave

pub ended_leaves : (k : KeyDistributor) (l : Lists) (randoms association : List ℕ) → k.accepted ≡ Some both → is_member l.members association ≡ true
    → ((turn_at k l (EndpointDisconnect association) randoms).state.accepted ≡ Some both) × ((turn_at k l (EndpointDisconnect association) randoms).state.lists ≡ without_member association l)
ended_leaves k l randoms association accepts member =
    let is = ended_turn k l randoms association accepts member in
    (ap (λ (t : Turn). t.state.accepted) is ∙ accepts, ap (λ (t : Turn). t.state.lists) is)

pub ended_calm : (k : KeyDistributor) (l : Lists) (randoms association : List ℕ) → k.accepted ≡ Some both → is_member l.members association ≡ true
    → (turn_at k l (EndpointDisconnect association) randoms).fault ≡ None
ended_calm k l randoms association accepts member = ap (λ (t : Turn). t.fault) (ended_turn k l randoms association accepts member)

-- ---- a hello

pub hello-length : (p : Profile) (n : ℕ) → length (spelling p (Hello n)) ≡ 8
unfolding spelling
hello-length p n = refl

pub hello_fits : (p : Profile) (n : ℕ) (association octets : List ℕ) → octets ≡ spelling p (Hello n) → Fits (TunneledDtls association octets) 32
hello_fits p n association octets is = fits (length octets) (ap length is ∙ hello-length p n) where
  fits : (m : ℕ) → m ≡ 8 → ((1 ≤ m) × (m ≤ 65517)) × (3 + (18 + m) ≤ 32)
  fits m e = ((omega arith, omega arith), omega arith)

pub hello_octets : (p : Profile) (n : ℕ) (octets : List ℕ) (before now : ℕ) → octets ≡ spelling p (Hello n) → now ≤ before + (3 + (18 + length octets)) → now ≤ before + 29
hello_octets p n octets before now is below = sum (length octets) (ap length is ∙ hello-length p n) below where
  sum : (m : ℕ) → m ≡ 8 → now ≤ before + (3 + (18 + m)) → now ≤ before + 29
  sum m e h = omega arith

pub hello_of : (p q : Profile) (octets : List ℕ) → p ≡ q → octets ≡ spelling q (Hello (profile_number q)) → octets ≡ spelling p (Hello (profile_number p))
hello_of p q octets same is = is ∙ ap (λ (r : Profile). spelling r (Hello (profile_number r))) (sym same)
