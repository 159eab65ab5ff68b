-- What only private contracts and proofs name.
use Rattle.std.specs.Prelude.{◌≡◌, ◌<◌, ◌≤◌, ◌^◌, ℕ, List, All, map, slice_get, Some, Vec, vec_len}
use Rattle.std.specs.Global.{Global}
use Rattle.ga_node.specs.Record.{NodeState, node_at_load_defaults}
use Rattle.ga_shared.specs.declared.call.Call.{Call}
use Rattle.ga_shared.specs.Log.{Worker, fresh_worker, HasMadeCalls}

-- ---- A node's registers, and a node at its load defaults

-- a node with all of another's that is neither stack nor memory
abbrev pub node_with_registers_of_other : NodeState → NodeState → NodeState
node_with_registers_of_other from to = record to {
  a = from.a;
  b = from.b;
  p = from.p;
  i = from.i;
  io = from.io;
  carry = from.carry;
  slot = from.slot;
  wait = from.wait;
  stop = from.stop;
}

-- a node at its load defaults
abbrev pub IsNodeAtDefaults : NodeState → Type 0
IsNodeAtDefaults node = (p : ℕ) × (node ≡ node_at_load_defaults p)

-- ---- workers that have made all their calls

-- a worker made all calls of its list, and no others
abbrev pub HasWorkerMadeListedCalls : List (List Call) → Worker → Type 0
HasWorkerMadeListedCalls lists now = (calls : List Call) → slice_get lists now.number ≡ Some calls → HasMadeCalls (fresh_worker now.number) now calls

-- each worker made all calls of its list, and no others, and they are in the order of their numbers
abbrev pub HaveWorkersMadeListedCalls : List (List Call) → List Worker → Type 0
HaveWorkersMadeListedCalls lists workers = (w : ℕ) (s : Worker) → slice_get workers w ≡ Some s → (s.number ≡ w) × HasWorkerMadeListedCalls lists s

-- ---- a race: what it begins with and what it gives back

-- no list has more calls than can be counted
abbrev pub AreCallListsCountable : Vec (Vec Call Global) Global → Type 0
AreCallListsCountable lists = All (λ l. vec_len l < 2 ^ 32) lists.items

-- a worker that made no call yet, and has one of the lists
abbrev pub IsWorkerReady : Vec (Vec Call Global) Global → Worker → Type 0
IsWorkerReady lists seat = (seat ≡ fresh_worker seat.number) × (seat.number < vec_len lists) × AreCallListsCountable lists

-- a worker for each of at most 16 lists, in the order of their numbers, and none made a call yet
pub record AreWorkersReady (lists : Vec (Vec Call Global) Global) (seats : Vec Worker Global) : Type 0 where
  pub each : vec_len seats ≡ vec_len lists
  pub few : vec_len seats ≤ 16
  pub fresh : (w : ℕ) → w < vec_len seats → slice_get seats.items w ≡ Some (fresh_worker w)
  pub short : AreCallListsCountable lists

-- a worker for each list, in the order of their numbers, and each made all calls of its list
pub record AreWorkersFinished (lists : Vec (Vec Call Global) Global) (seats : Vec Worker Global) : Type 0 where
  pub size : vec_len seats ≡ vec_len lists
  pub done : HaveWorkersMadeListedCalls (map (λ l. l.items) lists.items) seats.items
