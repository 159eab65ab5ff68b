-- The nodes that wait, one after another; and what the calls of `who` mean for its answer.
use Rattle.std.proofs.Common.{◌≡◌, ◌<◌, ◌≤◌, ℕ, zero, suc, ◌+◌, ◌-◌, Bool, true, false, List, ap, sym, subst, ◌∙◌, refl, arith}
use Rattle.std.specs.Prelude.{◌&&◌}
use Rattle.ga_node.specs.Record.{NodeRecord}
use Rattle.ga_lab.specs.Machine.{MachineState, chip_of_machine}
use Rattle.ga_races.specs.Acts.{AreDeadlocked, IsMarkedSubset}
use Rattle.ga_scheduler.specs.Idle.{AreIdleNodeFlags}
use Rattle.ga_explorer_text.specs.Ended.{AreEndedNodes}
use Rattle.ga_json.specs.Values.{no_items, item}
use Rattle.ga_explorer_json.specs.Who.{waiting_node_json, has_waiting_node_row, json_row_if_flag, waiting_node_rows, waiting_nodes_json, IsWaitingNodesJson}

none_more : (chip : List NodeRecord) (marks over idle : ℕ → Bool) (n : ℕ) → waiting_node_rows chip marks over idle n zero ≡ no_items
unfolding waiting_node_rows
none_more chip marks over idle n = refl

one_more : (chip : List NodeRecord) (marks over idle : ℕ → Bool) (n more : ℕ)
    → waiting_node_rows chip marks over idle n (suc more) ≡ json_row_if_flag (has_waiting_node_row chip marks idle n) (waiting_node_json chip (marks n) (over n) n) (waiting_node_rows chip marks over idle (n + 1) more)
unfolding waiting_node_rows
one_more chip marks over idle n more = refl

pub no_node : (chip : List NodeRecord) (marks over idle : ℕ → Bool) (n : ℕ) → 144 ≤ n → waiting_node_rows chip marks over idle n (144 - n) ≡ no_items
no_node chip marks over idle n past = ap (waiting_node_rows chip marks over idle n) (let e : 144 - n ≡ zero = omega (arith, past) in e) ∙ none_more chip marks over idle n

next_node : (chip : List NodeRecord) (marks over idle : ℕ → Bool) (n : ℕ) → n < 144
    → waiting_node_rows chip marks over idle n (144 - n) ≡ json_row_if_flag (has_waiting_node_row chip marks idle n) (waiting_node_json chip (marks n) (over n) n) (waiting_node_rows chip marks over idle (n + 1) (144 - (n + 1)))
next_node chip marks over idle n below =
    ap (waiting_node_rows chip marks over idle n) (let e : 144 - n ≡ suc (144 - (n + 1)) = omega (arith, below) in e) ∙ one_more chip marks over idle n (144 - (n + 1))

pub listed_node : (chip : List NodeRecord) (marks over idle : ℕ → Bool) (n : ℕ) → n < 144 → has_waiting_node_row chip marks idle n ≡ true
    → waiting_node_rows chip marks over idle n (144 - n) ≡ item (waiting_node_json chip (marks n) (over n) n) (waiting_node_rows chip marks over idle (n + 1) (144 - (n + 1)))
listed_node chip marks over idle n below is =
    next_node chip marks over idle n below
    ∙ ap (λ (b : Bool). json_row_if_flag b (waiting_node_json chip (marks n) (over n) n) (waiting_node_rows chip marks over idle (n + 1) (144 - (n + 1)))) is

pub passed_node : (chip : List NodeRecord) (marks over idle : ℕ → Bool) (n : ℕ) → n < 144 → has_waiting_node_row chip marks idle n ≡ false
    → waiting_node_rows chip marks over idle n (144 - n) ≡ waiting_node_rows chip marks over idle (n + 1) (144 - (n + 1))
passed_node chip marks over idle n below is =
    next_node chip marks over idle n below
    ∙ ap (λ (b : Bool). json_row_if_flag b (waiting_node_json chip (marks n) (over n) n) (waiting_node_rows chip marks over idle (n + 1) (144 - (n + 1)))) is

pub who_found : (s : MachineState) (chip : List NodeRecord) (marks ended over idle : ℕ → Bool) → chip ≡ chip_of_machine s → AreDeadlocked chip marks
    → ((others : ℕ → Bool) → AreDeadlocked chip others → IsMarkedSubset others marks) → AreEndedNodes chip ended → ((n : ℕ) → n < 144 → over n ≡ (marks n && ended n))
    → AreIdleNodeFlags s idle → IsWaitingNodesJson s (waiting_nodes_json chip marks over idle)
who_found s chip marks ended over idle e stuck greatest done both silent = record {
  marks = marks;
  stuck = subst (λ z. AreDeadlocked z marks) e stuck;
  greatest = λ others h. greatest others (subst (λ z. AreDeadlocked z others) (sym e) h);
  ended = ended;
  done = subst (λ z. AreEndedNodes z ended) e done;
  over = over;
  both = both;
  idle = idle;
  silent = silent;
  json = ap (λ (z : List NodeRecord). waiting_nodes_json z marks over idle) e;
}
