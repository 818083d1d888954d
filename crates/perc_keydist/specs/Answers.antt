-- What a handshake answers, and what its clear stand-in does.
use Rattle.std.specs.Prelude.{ℕ, List, Option, Some, None}
use Rattle.perc_base.specs.declared.profile.Profile.TheVariants.{Aes128}
use Rattle.perc_ekt.specs.declared.record.EktKeyRecord.{EktKeyRecord}
use Rattle.perc_tunnel.specs.declared.message.MediaKeys.{MediaKeys}
use Rattle.perc_keydist.specs.declared.handshake.Hello as declared
use Rattle.perc_keydist.specs.declared.handshake.Hello.TheVariants.{Join, Other}
use Rattle.perc_keydist.specs.ClearRecord.{Record, Hello, Welcome, Renew, record_in, spelling}

-- what a handshake makes of a record, and the records that it makes: for a new member, and for a new EKT key
pub record Answers : Type 0 where
  pub taken : List ℕ → declared.Hello
  pub welcome : MediaKeys → EktKeyRecord → List ℕ
  pub renewal : EktKeyRecord → List ℕ

-- A hello is one in each profile; other records bring nothing.
abbrev pub brought : Option Record → declared.Hello
brought None = Other
brought (Some r) = brought_by r where
  brought_by : Record → declared.Hello
  brought_by (Hello number) = Join number
  brought_by r = Other

-- the answers in clear records; a renewal's spelling is the same for each profile
abbrev pub clear_answers : Answers
clear_answers = record {
  taken = λ octets. brought (record_in Aes128 octets);
  welcome = λ keys granted. spelling keys.profile (Welcome keys.client keys.server granted);
  renewal = λ granted. spelling Aes128 (Renew granted);
}
