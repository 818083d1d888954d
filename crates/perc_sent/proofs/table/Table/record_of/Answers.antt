use Rattle.std.proofs.Common.{◌≡◌, ◌+◌, ap, ◌∙◌, sym, arith, None}
use Rattle.std.specs.Option.{option_map}
use Rattle.std.specs.Borrow.{Bor}
use Rattle.perc_ekt.specs.declared.record.EktKeyRecord.{EktKeyRecord}
use Rattle.perc_receiver.specs.Table.{secret_in, secret_of}
use Rattle.perc_sent.proofs.Records.{no_record, record_at, record_got, record_right}
use Rattle.perc_sent.proofs.table.Table.record_of.Goals as goal

-- src/table.rt:58:21
pub returns-in_err-place-clause-secret : goal.returns-in_err-place-clause-secret
returns-in_err-place-clause-secret c s is =
    let none : c.args.spi ≡ 0 = omega arith in
    let e : c.from_residual.result ≡ None = c.from_residual.ensures in
    ap (option_map (λ (x : Bor EktKeyRecord). secret_in x.now)) e ∙ sym (ap (secret_of s.secrets) none ∙ no_record c.args.self.now.profile c.args.self.now.records.now s.secrets is.records)

-- src/table.rt:55:5
pub returns-clause-secret : goal.returns-clause-secret
returns-clause-secret c s is =
    let records = c.args.self.now.records.now in
    let k = c.in_ok-place.place in
    let spi : c.args.spi ≡ k + 1 = omega arith in
    record_got records k c.get.result c.get.ensures.lookup.0 c.get.ensures.lookup.1 ∙ record_at c.args.self.now.profile records s.secrets c.args.spi k is.records spi

pub returns-in_err-place-clause-right : goal.returns-in_err-place-clause-right
returns-in_err-place-clause-right c s is = rw c.from_residual.ensures tt

pub returns-clause-right : goal.returns-clause-right
returns-clause-right c s is =
    record_right c.args.self.now.profile c.args.self.now.records.now s.secrets c.in_ok-place.place c.get.result is.records c.get.ensures.lookup.0 c.get.ensures.lookup.1
