-- Runs of a key distributor that were worked by hand, with clear records.
use Rattle.std.specs.List.{flat_map}
use Rattle.std.specs.Prelude.{◌≡◌, ℕ, List, [], ◌∷◌, ◌++◌, replicate, Some}
use Rattle.perc_base.specs.declared.profile.Profile.TheVariants.{Aes128}
use Rattle.perc_kdf.specs.Derivation.{KeyAndSalt}
use Rattle.perc_ekt.specs.declared.record.EktKeyRecord.{EktKeyRecord}
use Rattle.perc_tunnel.specs.Message.{TunnelMessage, SupportedProfiles, UnsupportedVersion, MediaKeys, TunneledDtls, EndpointDisconnect}
use Rattle.perc_tunnel.specs.Message as tunnel
use Rattle.perc_keeper.specs.Lists.{Lists, nothing}
use Rattle.perc_keydist.specs.Answers.{clear_answers}
use Rattle.perc_keydist.specs.ClearRecord.{Hello, spelling}
use Rattle.perc_keydist.specs.Distributing.{Event, Heard, Rolled, Order, SpiSpent, KeyRepeated, Turn, begun, run_of}

abbrev pub name : List ℕ
name = replicate 15 0 ++ 1 ∷ []

-- what is drawn for a first EKT key, and for a first member
abbrev pub ekt_draws : List ℕ
ekt_draws = replicate 16 1 ++ replicate 12 2

abbrev pub draws : List ℕ
draws = ekt_draws ++ replicate 28 0xc1 ++ replicate 28 0xc2

-- profile 0009 is offered, and the association says hello with the profile of this number
abbrev pub offer : Event
offer = Heard (SupportedProfiles 0 (9 ∷ []))

abbrev pub hello : ℕ → Event
hello number = Heard (TunneledDtls name (spelling Aes128 (Hello number)))

-- the events, from nothing
abbrev pub run : List Event → List ℕ → Turn
run events randoms = run_of clear_answers (begun Aes128 nothing) events randoms

-- the octets of the replies
abbrev pub sent : Turn → List ℕ
sent t = flat_map tunnel.spelling t.replies

-- a first member's keys, and its welcome with an EKT key of these octets and salt, under this SPI
abbrev pub keys_sent : List ℕ
keys_sent =
    (3 ∷ 0 ∷ 0x4f ∷ []) ++ name ++ (0 ∷ 9 ∷ 0 ∷ 0x10 ∷ []) ++ replicate 16 0xc1 ++ (0x10 ∷ []) ++ replicate 16 0xc2
    ++ (0x0c ∷ []) ++ replicate 12 0xc1 ++ (0x0c ∷ []) ++ replicate 12 0xc2

abbrev pub welcome_sent : ℕ → ℕ → ℕ → List ℕ
welcome_sent key salt spi =
    (4 ∷ 0 ∷ 0x77 ∷ []) ++ name ++ (0 ∷ 0x65 ∷ 0x16 ∷ 0x50 ∷ 0x45 ∷ 0x52 ∷ 0x43 ∷ 2 ∷ 0 ∷ 9 ∷ []) ++ replicate 28 0xc1
    ++ replicate 28 0xc2 ++ (0 ∷ 0x10 ∷ []) ++ replicate 16 key ++ (0 ∷ 0x0c ∷ []) ++ replicate 12 salt ++ (0 ∷ spi ∷ 1 ∷ 0x51 ∷ 0x80 ∷ [])

abbrev pub renewal_sent : ℕ → ℕ → ℕ → List ℕ
renewal_sent key salt spi =
    (4 ∷ 0 ∷ 0x3d ∷ []) ++ name ++ (0 ∷ 0x2b ∷ 0x16 ∷ 0x50 ∷ 0x45 ∷ 0x52 ∷ 0x43 ∷ 3 ∷ []) ++ (0 ∷ 0x10 ∷ []) ++ replicate 16 key
    ++ (0 ∷ 0x0c ∷ []) ++ replicate 12 salt ++ (0 ∷ spi ∷ 1 ∷ 0x51 ∷ 0x80 ∷ [])

-- the first member, and 64 of them
abbrev pub pair : ℕ → KeyAndSalt
pair octet = record { key = replicate 16 octet; salt = replicate 12 octet }

abbrev pub crowd : Lists
crowd = record {
  issued = [];
  given = [];
  members = replicate 64 (record { association = replicate 16 7; profile = Aes128; client = pair 1; server = pair 2 });
}

-- the record of the last SPI
abbrev pub last_record : EktKeyRecord
last_record = record { key = replicate 16 3 ++ replicate 16 0; len = 16; salt = replicate 12 3; spi = 65535; life = 86400 }

pub record WorkedRows : Type 0 where
  -- a first hello issues SPI 1 and is welcomed
  pub first_join : sent (run (offer ∷ hello 9 ∷ []) draws) ≡ keys_sent ++ welcome_sent 1 2 1
  -- a roll renews, and a member that says hello again gets its keys again with the newest EKT key
  pub rolled : sent (run (offer ∷ hello 9 ∷ Rolled ∷ hello 9 ∷ []) (draws ++ replicate 16 5 ++ replicate 12 6))
      ≡ keys_sent ++ welcome_sent 1 2 1 ++ renewal_sent 5 6 2 ++ keys_sent ++ welcome_sent 5 6 2
  -- the same octets drawn again
  pub key_again : (run (Rolled ∷ Rolled ∷ []) (ekt_draws ++ ekt_draws)).fault ≡ Some KeyRepeated
  pub pair_twice : (run (offer ∷ hello 9 ∷ []) (ekt_draws ++ replicate 56 4)).fault ≡ Some KeyRepeated
  -- a pair repeats behind an issued EKT key, which stays issued
  pub issued_still : (run (offer ∷ hello 9 ∷ []) (ekt_draws ++ replicate 56 4)).state.lists.given ≡ []
  -- another profile, and a member more than may be
  pub other_profile : (run (offer ∷ hello 10 ∷ []) draws).replies ≡ []
  pub crowded : (run_of clear_answers (begun Aes128 crowd) (offer ∷ hello 9 ∷ []) draws).replies ≡ []
  -- a version that isn't known isn't accepted
  pub version : sent (run (Heard (SupportedProfiles 1 (9 ∷ [])) ∷ offer ∷ []) []) ≡ 2 ∷ 0 ∷ 1 ∷ 0 ∷ []
  pub spent : (run_of clear_answers (begun Aes128 (record nothing { issued = last_record ∷ [] })) (Rolled ∷ []) draws).fault ≡ Some SpiSpent
  -- who leaves is counted, once
  pub left : (run (offer ∷ hello 9 ∷ Heard (EndpointDisconnect name) ∷ Heard (EndpointDisconnect name) ∷ []) draws).state.left ≡ 1
  -- messages out of order
  pub offered_twice : (run (offer ∷ offer ∷ []) []).fault ≡ Some (Order 1)
  pub answered : (run (Heard (UnsupportedVersion 0) ∷ []) []).fault ≡ Some (Order 2)
  pub keys_heard : (run (Heard (MediaKeys name Aes128 (pair 1) (pair 2)) ∷ []) []).fault ≡ Some (Order 3)
  pub hello_first : (run (hello 9 ∷ []) draws).fault ≡ Some (Order 4)
  pub end_first : (run (Heard (EndpointDisconnect name) ∷ []) []).fault ≡ Some (Order 5)
