-- What holds of an endpoint over any list of its calls.
use Rattle.std.specs.Prelude.{◌≡◌, ℕ, false, List, [], ◌∷◌, ◌++◌, Result, Ok, Err}
use Rattle.perc_rtp.specs.Media.{Content}
use Rattle.perc_octets.specs.Octets.{AreOctets}
use Rattle.perc_receiver.specs.Table.{IsRight, IsSecret, Secret, Table}
use Rattle.perc_receiver.specs.Receiver.{Accepted}
use Rattle.perc_receiver.specs.Foreign.{is_foreign}
use Rattle.perc_receiver.specs.Calls.{with_answer}
use Rattle.perc_outgoing.specs.History as sending
use Rattle.perc_outgoing.specs.History.{Seal, seals}
use Rattle.perc_endpoint.specs.declared.fault.GrantFault.{GrantFault}
use Rattle.perc_endpoint.specs.Endpoint.{Endpoint, after_grant, after_rekey, grant_answer, received, rekey_answer, rtcp_received, rtcp_sent, sent}

pub data Call : Type 0 where
  TakeEkt : Secret → (key : List ℕ) → Call
  Rekey : (key : List ℕ) → Call
  Send : Content → Call
  Receive : (datagram : List ℕ) → Call
  SendRtcp : (plain : List ℕ) → Call
  ReceiveRtcp : (datagram : List ℕ) → Call

abbrev pub after_call : Endpoint → Call → Endpoint
after_call e (TakeEkt s key) = after_grant e s key (grant_answer e s key)
after_call e (Rekey key) = after_rekey e key (rekey_answer e key)
after_call e (Send content) = (sent e content).1
after_call e (Receive datagram) = (received e datagram).1
after_call e (SendRtcp plain) = (rtcp_sent e plain).1
after_call e (ReceiveRtcp datagram) = (rtcp_received e datagram).1

abbrev pub after_calls : Endpoint → List Call → Endpoint
after_calls e [] = e
after_calls e (call ∷ calls) = after_calls (after_call e call) calls

-- ---- what it takes and accepts

-- the secrets that were taken, behind those before; a refused grant takes none
abbrev pub with_secret : Secret → Result ℕ GrantFault → List Secret → List Secret
with_secret s (Ok epoch) taken = taken ++ s ∷ []
with_secret s (Err fault) taken = taken

abbrev pub taken_by : Endpoint → Call → List Secret → List Secret
taken_by e (TakeEkt s key) taken = with_secret s (grant_answer e s key) taken
taken_by e (Rekey key) taken = taken
taken_by e (Send content) taken = taken
taken_by e (Receive datagram) taken = taken
taken_by e (SendRtcp plain) taken = taken
taken_by e (ReceiveRtcp datagram) taken = taken

abbrev pub secrets_taken : Endpoint → List Call → List Secret → List Secret
secrets_taken e [] taken = taken
secrets_taken e (call ∷ calls) taken = secrets_taken (after_call e call) calls (taken_by e call taken)

-- the packets that were accepted, the newest first, followed by those before
abbrev pub accepted_by : Endpoint → Call → List Accepted → List Accepted
accepted_by e (TakeEkt s key) before = before
accepted_by e (Rekey key) before = before
accepted_by e (Send content) before = before
accepted_by e (Receive datagram) before = with_answer (received e datagram).0 before
accepted_by e (SendRtcp plain) before = before
accepted_by e (ReceiveRtcp datagram) before = before

abbrev pub accepts : Endpoint → List Call → List Accepted → List Accepted
accepts e [] before = before
accepts e (call ∷ calls) before = accepts (after_call e call) calls (accepted_by e call before)

-- A secret that it gets is right, and a datagram isn't foreign for the table.
abbrev pub IsCall : Table → Endpoint → Call → Type 0
IsCall table e (TakeEkt s key) = IsSecret s
IsCall table e (Rekey key) = Unit {0}
IsCall table e (Send content) = Unit {0}
IsCall table e (Receive datagram) = is_foreign table e.receiving datagram ≡ false
IsCall table e (SendRtcp plain) = Unit {0}
IsCall table e (ReceiveRtcp datagram) = Unit {0}

abbrev pub AreCalls : Table → Endpoint → List Call → Type 0
AreCalls table e [] = Unit {0}
AreCalls table e (call ∷ calls) = IsCall table e call × AreCalls table (after_call e call) calls

-- The endpoint begins with this secret, and its calls are such; the table is right for the secrets that it took.
pub record IsRun (table : Table) (first : Secret) (e : Endpoint) (calls : List Call) : Type 0 where
  pub secret : IsSecret first
  pub calls_are : AreCalls table e calls
  pub right : IsRight (secrets_taken e calls (first ∷ [])) table

-- ---- what it seals

-- What reaches its sending side of a call; a refused grant doesn't.
abbrev pub granted_to : Secret → (key : List ℕ) → Result ℕ GrantFault → List sending.Call
granted_to s key (Ok epoch) = sending.Grant s key ∷ []
granted_to s key (Err fault) = []

abbrev pub sent_by : Endpoint → Call → List sending.Call
sent_by e (TakeEkt s key) = granted_to s key (grant_answer e s key)
sent_by e (Rekey key) = sending.Rekey key ∷ []
sent_by e (Send content) = sending.Send content ∷ []
sent_by e (Receive datagram) = []
sent_by e (SendRtcp plain) = sending.SendRtcp plain ∷ []
sent_by e (ReceiveRtcp datagram) = []

-- the seals of the calls in turn, the newest first, followed by those before
abbrev pub sealed_by : Endpoint → List Call → List Seal → List Seal
sealed_by e [] before = before
sealed_by e (call ∷ calls) before = sealed_by (after_call e call) calls (seals e.sending (sent_by e call) before)

-- RTCP packets that are to be sent are octets.
abbrev pub IsOfOctets : Call → Type 0
IsOfOctets (TakeEkt s key) = Unit {0}
IsOfOctets (Rekey key) = Unit {0}
IsOfOctets (Send content) = Unit {0}
IsOfOctets (Receive datagram) = Unit {0}
IsOfOctets (SendRtcp plain) = AreOctets plain
IsOfOctets (ReceiveRtcp datagram) = Unit {0}

abbrev pub AreOfOctets : List Call → Type 0
AreOfOctets [] = Unit {0}
AreOfOctets (call ∷ calls) = IsOfOctets call × AreOfOctets calls
