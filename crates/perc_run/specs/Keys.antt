-- The lines that issue keys, and that bring keys to members: `ekt`, `grant` and `rekey` (RFC 8870 sections 4.4 and 4.6).
use Rattle.std.specs.Prelude.{ℕ, ◌+◌, nat_le, if◌then◌else◌, List, [], ◌∷◌, ◌++◌, length, Option, Some, None, Result, Ok, Err}
use Rattle.std.specs.List.{list_any}
use Rattle.std.specs.Option.{option_map_or}
use Rattle.std.specs.Str.{bytes_eq}
use Rattle.perc_receiver.specs.Table.{Secret, secret_of}
use Rattle.perc_endpoint.specs.Endpoint.{after_grant, after_rekey, grant_answer, rekey_answer}
use Rattle.perc_endpoint.specs.declared.fault.GrantFault.{GrantFault}
use Rattle.perc_endpoint.specs.declared.fault.GrantFault.TheVariants as fault
use Rattle.perc_script_line.specs.declared.reason.Reason.TheVariants.{Name, Key, Limit}
use Rattle.perc_report_line.specs.declared.reasons.Denial.{Denial}
use Rattle.perc_report_line.specs.declared.reasons.Denial.TheVariants as denial
use Rattle.perc_report_line.specs.Report.{Ekt, Granted, Denied, Rekeyed}
use Rattle.perc_run.specs.State.{State, Member, Turn, Goes, Refused, at_member, most_spis, with_member}

-- ---- ekt

unfoldable pub ekt_turn : State → List ℕ → List ℕ → Turn
ekt_turn s key salt =
    let spi = length s.secrets + 1 in
    if list_any (λ x. bytes_eq x.key key) s.secrets then Refused Key
    else (if nat_le most_spis (length s.secrets) then Refused Limit
    else Goes (Ekt spi ∷ []) (record s { secrets = s.secrets ++ record { spi = spi; key = key; salt = salt } ∷ [] }))

-- ---- grant

abbrev pub denial_of : GrantFault → Denial
denial_of (fault.SpiOld latest) = denial.SpiOld latest
denial_of fault.KeyRepeated = denial.KeyRepeated
denial_of fault.KeyLimit = denial.KeyLimit

abbrev pub with_grant : Secret → (key : List ℕ) → Member → Member
with_grant secret key m = record m { endpoint = after_grant m.endpoint secret key (grant_answer m.endpoint secret key) }

abbrev pub granted : State → Member → Secret → (key : List ℕ) → Result ℕ GrantFault → Turn
granted s m secret key (Err f) = Goes (Denied m.name (denial_of f) ∷ []) s
granted s m secret key (Ok epoch) =
    Goes (Granted m.name secret.spi ∷ []) (record s { members = with_member m.name (with_grant secret key) s.members })

-- The record of an SPI that was issued reaches a member, with a new key of its own.
unfoldable pub grant_turn : State → List ℕ → ℕ → List ℕ → Turn
grant_turn s name spi key =
    at_member s name (λ m. option_map_or (λ secret. granted s m secret key (grant_answer m.endpoint secret key)) (secret_of s.secrets spi) (Refused Name))

-- ---- rekey

abbrev pub with_rekey : (key : List ℕ) → Member → Member
with_rekey key m = record m { endpoint = after_rekey m.endpoint key (rekey_answer m.endpoint key) }

abbrev pub rekeyed : State → Member → (key : List ℕ) → Result ℕ GrantFault → Turn
rekeyed s m key (Err f) = Goes (Denied m.name (denial_of f) ∷ []) s
rekeyed s m key (Ok epoch) =
    Goes (Rekeyed m.name m.endpoint.sending.secret.spi epoch ∷ []) (record s { members = with_member m.name (with_rekey key) s.members })

unfoldable pub rekey_turn : State → List ℕ → List ℕ → Turn
rekey_turn s name key = at_member s name (λ m. rekeyed s m key (rekey_answer m.endpoint key))
