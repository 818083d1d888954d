-- What a desk makes of messages, as turns.
use Rattle.std.specs.Option.{option_map}
use Rattle.std.specs.Prelude.{Option, Some, None, IfErr, IfOk, IfSome, IsTrue, OnOk, Result, Ok, Err, is_some, not}
use Rattle.std.proofs.Common.{◌≡◌, ℕ, ◌+◌, ◌||◌, Bool, true, false, cond, List, [], ◌∷◌, refl, sym, ap, subst, ◌∙◌, add-zero, append-nil}
use Rattle.std.proofs.lemmas.Bool.{cond-true, cond-false}
use Rattle.perc_base.specs.declared.profile.Profile.{Profile}
use Rattle.perc_tunnel.specs.declared.message.MediaKeys.{MediaKeys}
use Rattle.perc_tunnel.specs.Message.{TunnelMessage, TunneledDtls, EndpointDisconnect}
use Rattle.perc_keeper.specs.Lists.{Lists, is_member, is_of, without, without_member}
use Rattle.perc_keydist.specs.declared.fault.KdFault.{KdFault}
use Rattle.perc_keydist.specs.declared.handshake.Hello.{Hello}
use Rattle.perc_keydist.specs.declared.handshake.Hello.TheVariants.{Join, Other}
use Rattle.perc_keydist.specs.Answers.{Answers}
use Rattle.perc_keydist.specs.Causes.{is_of_keeping, told_as}
use Rattle.perc_keydist.specs.Desks.{Hears, IsDone, IsRefused, count_of, nobody}
use Rattle.perc_keydist.specs.Distributing as spec
use Rattle.perc_keydist.specs.Distributing.{Fault, Part, Replying, State, Turn, ended, hear, record_heard, turn_of}
use Rattle.perc_keydist.specs.Gives.{Replied}
use Rattle.perc_keydist.specs.Wanted.{is_wanted}
use Rattle.perc_keydist.proofs.Joining.{untold_keeping}

-- the same turn, of equal lists and randoms
pub heard_with : {X : Type 0} (t u : Turn) (count : X → ℕ) (left : ℕ) (result : Result X KdFault) (before after : List ℕ) (accepted : Option (List ℕ))
    (lists kept : Option Lists) (randoms rest : Option (List ℕ)) → t ≡ u → lists ≡ kept → randoms ≡ rest
    → Hears u count left result before after accepted kept rest → Hears t count left result before after accepted lists randoms
heard_with t u count left result before after accepted lists kept randoms rest same is was h =
    subst (λ (v : Turn). Hears v count left result before after accepted lists randoms) (sym same)
    (subst (λ (o : Option Lists). Hears u count left result before after accepted o randoms) (sym is)
    (subst (λ (o : Option (List ℕ)). Hears u count left result before after accepted kept o) (sym was) h))

-- ---- a record

wanted_joins : (a : Answers) (p : Profile) (accepted association : List ℕ) (l : Lists) (randoms : List ℕ) (hello : Hello) → is_wanted p accepted hello ≡ true
    → record_heard a p accepted association l randoms hello ≡ spec.join a p association l randoms
wanted_joins a p accepted association l randoms (Join number) h =
    cond-true (is_wanted p accepted (Join number)) (spec.join a p association l randoms) (spec.silent l randoms) h
wanted_joins a p accepted association l randoms Other h = absurd cc

replied_heard : (s : State) (part : Replying) (result : Result (Unit {0}) KdFault) (before after : List ℕ) (lists : Option Lists) (left : Option (List ℕ))
    → Replied part result before after lists left → Hears (turn_of s part) nobody s.left result before after s.accepted lists left
replied_heard s part (Ok x) before after lists left h =
    subst (λ (answer : Result (List TunnelMessage) Fault).
    IsDone (turn_of s (record { answer = answer; lists = part.lists; randoms = part.randoms })) before after s.accepted lists left (s.left + 0))
    (sym h.1) (record { no_fault = refl; replied = h.2; accepts = refl; keeps = h.3; draws = h.4; leaves = add-zero s.left })
replied_heard s part (Err e) before after lists left h = by_case (told_as e) h.1 where
  by_case : (o : Option Fault) → IfSome o (λ f. (part.answer ≡ Err f) × (lists ≡ Some part.lists) × (left ≡ Some part.randoms))
      → IfSome o (λ f. IsRefused (turn_of s part) f lists left)
  by_case None h = tt
  by_case (Some f) (is, kept, rest) =
      subst (λ (answer : Result (List TunnelMessage) Fault). IsRefused (turn_of s (record { answer = answer; lists = part.lists; randoms = part.randoms })) f lists left)
      (sym is) (record { brought = refl; silent = refl; keeps = kept; draws = rest })

pub joins_heard : (a : Answers) (s : State) (randoms association octets accepted : List ℕ) (o : Option (List ℕ)) (hello : Hello) (result : Result (Unit {0}) KdFault)
    (before after : List ℕ) (lists : Option Lists) (left : Option (List ℕ)) → s.accepted ≡ o → o ≡ Some accepted → hello ≡ a.taken octets
    → true ≡ is_wanted s.profile accepted hello → Replied (spec.join a s.profile association s.lists randoms) result before after lists left
    → Hears (hear a s randoms (TunneledDtls association octets) o) nobody s.left result before after o lists left
joins_heard a s randoms association octets accepted o hello result before after lists left known is taken join h =
    let part = record_heard a s.profile accepted association s.lists randoms (a.taken octets) in
    let same : part ≡ spec.join a s.profile association s.lists randoms =
    ap (record_heard a s.profile accepted association s.lists randoms) (sym taken) ∙ wanted_joins a s.profile accepted association s.lists randoms hello (sym join) in
    let turn : hear a s randoms (TunneledDtls association octets) o ≡ turn_of s (spec.join a s.profile association s.lists randoms) =
    ap (hear a s randoms (TunneledDtls association octets)) is ∙ ap (turn_of s) same in
    subst (λ (t : Turn). Hears t nobody s.left result before after o lists left) (sym turn)
    (subst (λ (q : Option (List ℕ)). Hears (turn_of s (spec.join a s.profile association s.lists randoms)) nobody s.left result before after q lists left) known
    (replied_heard s (spec.join a s.profile association s.lists randoms) result before after lists left h))

-- ---- the end of an association

pub none_out : (members : List MediaKeys) (association : List ℕ) → is_member members association ≡ false → without association members ≡ members
none_out [] association none = refl
none_out (k ∷ members) association none = by_test (is_of association k) none (none_out members association) where
  by_test : (b : Bool) → (b || is_member members association) ≡ false → (is_member members association ≡ false → without association members ≡ members)
      → cond (not b) (k ∷ without association members) (without association members) ≡ k ∷ members
  by_test true none later = absurd cc
  by_test false none later = ap (λ (ks : List MediaKeys). k ∷ ks) (later none)

end_heard : (a : Answers) (s : State) (randoms association : List ℕ) (o : Option (List ℕ)) (b : Bool) (lists : Option Lists) (out : List ℕ) → s.accepted ≡ o → is_some o ≡ true
    → b ≡ is_member s.lists.members association → lists ≡ Some (without_member association s.lists)
    → IsDone (hear a s randoms (EndpointDisconnect association) o) out out o lists (Some randoms) (s.left + count_of b)
end_heard a s randoms association None b lists out known there is changed = absurd cc
end_heard a s randoms association (Some accepted) b lists out known there is changed = by_test b (sym is) where
  gone : Turn
  gone = spec.quiet (record s { lists = without_member association s.lists; left = s.left + 1 }) randoms

  by_test : (b : Bool) → is_member s.lists.members association ≡ b
      → IsDone (hear a s randoms (EndpointDisconnect association) (Some accepted)) out out (Some accepted) lists (Some randoms) (s.left + count_of b)
  by_test true member = subst (λ (t : Turn). IsDone t out out (Some accepted) lists (Some randoms) (s.left + 1))
      (sym (cond-true (is_member s.lists.members association) gone (spec.quiet s randoms) member))
      (record { no_fault = refl; replied = sym (append-nil out); accepts = sym known; keeps = changed; draws = refl; leaves = refl })
  by_test false member = subst (λ (t : Turn). IsDone t out out (Some accepted) lists (Some randoms) (s.left + 0))
      (sym (cond-false (is_member s.lists.members association) gone (spec.quiet s randoms) member))
      (record {
        no_fault = refl;
        replied = sym (append-nil out);
        accepts = sym known;
        keeps = changed ∙ ap (λ (members : List MediaKeys). Some (record s.lists { members = members })) (none_out s.lists.members association member);
        draws = refl;
        leaves = add-zero s.left;
      })

-- an association was asked to go
pub left_heard : (a : Answers) (s : State) (randoms association : List ℕ) (o : Option (List ℕ)) (result : Result Bool KdFault) (before now : Option Lists) (out : List ℕ)
    → s.accepted ≡ o → is_some o ≡ true → before ≡ Some s.lists → IfOk result (λ b. IfSome before (λ l. b ≡ is_member l.members association))
    → OnOk result (now ≡ option_map (without_member association) before) → IfErr result (λ e. IsTrue (is_of_keeping e))
    → Hears (hear a s randoms (EndpointDisconnect association) o) count_of s.left result out out o now (Some randoms)
left_heard a s randoms association o (Ok b) before now out known there was member gone kinds =
    let is = subst (λ (p : Option Lists). IfSome p (λ l. b ≡ is_member l.members association)) was member in
    end_heard a s randoms association o b now out known there is (gone ∙ ap (option_map (without_member association)) was)
left_heard a s randoms association o (Err e) before now out known there was member gone kinds =
    subst (λ (f : Option Fault). IfSome f (λ f. IsRefused (hear a s randoms (EndpointDisconnect association) o) f now (Some randoms))) (sym (untold_keeping e kinds)) tt

pub is_some_map : {X Y : Type 0} (f : X → Y) (o : Option X) → is_some (option_map f o) ≡ is_some o
is_some_map f None = refl
is_some_map f (Some x) = refl
