use Rattle.std.proofs.Common.{◌≡◌, ◌+◌, ◌++◌, List, ℕ, length, refl, sym, ap, subst, ◌∙◌}
use Rattle.std.specs.List.{slice_range}
use Rattle.perc_tunnel.specs.Message.{TunnelMessage, IsMessage, spelling}
use Rattle.perc_tunnel.specs.Decoding.{Decoding}
use Rattle.perc_tunnel.specs.Forms.{message_at}
use Rattle.perc_tunnel.specs.Room.{message_in}
use Rattle.perc_tunnel.specs.Told.{content_of}
use Rattle.perc_tunnel.proofs.Whole.{whole_message}
use Rattle.perc_tunnel.proofs.decoder.Decoder.next.Goals as goal

pub returns-in-Message : goal.returns-in-Message
returns-in-Message c =
    let new = c.advance.new.self in
    let form = c.in-Message.form in
    let octets = message_in new in
    let rest : List ℕ = slice_range new.octets.items new.start new.end in
    let a = c.in-Message.ensures.step in
    let view = c.self.view_is in
    let given : c.self.inside.room.given ≡ c.args.self.now.given = ap (λ (d : Decoding). d.given) view in
    let told : content_of c.message.result ≡ message_at form octets = c.message.ensures in
    let m : IsMessage (content_of c.message.result) × (spelling (content_of c.message.result) ≡ octets) =
    subst (λ (m : TunnelMessage). IsMessage m × (spelling m ≡ octets)) (sym told) (whole_message form octets a.2 a.1) in (
      (
        refl,
        λ _. tt,
        (
          sym (ap (λ (d : Decoding). d.fault) view) ∙ a.0,
          m.0,
          sym (ap (λ (d : Decoding). d.held) view) ∙ a.3 ∙ ap (λ (l : List ℕ). l ++ rest) (sym m.1),
          a.4 ∙ ap (λ (k : ℕ). k + length octets) given ∙ ap (λ (l : List ℕ). c.args.self.now.given + length l) (sym m.1),
          a.5,
        ),
      ),
      record { after = tt },
    )
