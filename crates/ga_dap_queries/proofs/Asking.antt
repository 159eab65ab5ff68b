-- What a request asks for, by the numbers of threads, frames and variables.
use Rattle.std.proofs.Common.{◌≡◌, ◌≢◌, ◌<◌, ℕ, Some, None, sym, ap, ◌∙◌, codes}
use Rattle.std.specs.Prelude.{Option, IfSome, IfNone}
use Rattle.serde_json.specs.Data.{Data}
use Rattle.ga_grid.specs.declared.node_id.NodeId.{NodeId}
use Rattle.ga_dap_protocol.specs.Messages.{member_as_number}
use Rattle.ga_dap_views.specs.Numbers.{thread_id, frame_id, variables_reference}
use Rattle.ga_dap_views.specs.declared.scope.Scope.{Scope}
use Rattle.ga_dap_queries.specs.Arguments.{IsThreadArgument, IsFrameArgument, IsVariablesReferenceArgument}

pub asks_thread : (d : Data) (thread : ℕ) (asked : Option NodeId) → Some thread ≡ member_as_number (codes "threadId") d → IfSome asked (λ node. thread_id node.number ≡ thread)
    → IfNone asked ((n : ℕ) → n < 144 → thread_id n ≢ thread) → IsThreadArgument d asked
asks_thread d thread (Some node) e found none = sym e ∙ ap (λ (z : ℕ). Some z) (sym found)
asks_thread d thread None e found none = λ n within same. let is : Some thread ≡ Some (thread_id n) = e ∙ same in none n within (cc)

pub asks_no_thread : (d : Data) → None ≡ member_as_number (codes "threadId") d → IsThreadArgument d None
asks_no_thread d e = λ n within same. let is : None ≡ Some (thread_id n) = e ∙ same in absurd (cc)

pub asks_variables : (d : Data) (reference : ℕ) (asked : Option (NodeId × Scope)) → Some reference ≡ member_as_number (codes "variablesReference") d
    → IfSome asked (λ at. variables_reference at.0.number at.1 ≡ reference) → IfNone asked ((n : ℕ) (scope : Scope) → n < 144 → variables_reference n scope ≢ reference) → IsVariablesReferenceArgument d asked
asks_variables d reference (Some at) e found none = sym e ∙ ap (λ (z : ℕ). Some z) (sym found)
asks_variables d reference None e found none = λ n scope within same. let is : Some reference ≡ Some (variables_reference n scope) = e ∙ same in none n scope within (cc)

pub asks_no_variables : (d : Data) → None ≡ member_as_number (codes "variablesReference") d → IsVariablesReferenceArgument d None
asks_no_variables d e = λ n scope within same. let is : None ≡ Some (variables_reference n scope) = e ∙ same in absurd (cc)

pub asks_frame : (d : Data) (frame : ℕ) (asked : Option NodeId) → Some frame ≡ member_as_number (codes "frameId") d
    → IfSome asked (λ node. (level : ℕ) × (level < 16) × (frame_id node.number level ≡ frame))
    → IfNone asked ((n level : ℕ) → n < 144 → level < 16 → frame_id n level ≢ frame) → IsFrameArgument d asked
asks_frame d frame (Some node) e found none = (found.0, found.1, sym e ∙ ap (λ (z : ℕ). Some z) (sym found.2))
asks_frame d frame None e found none = λ n level within low same. let is : Some frame ≡ Some (frame_id n level) = e ∙ same in none n level within low (cc)

pub asks_no_frame : (d : Data) → None ≡ member_as_number (codes "frameId") d → IsFrameArgument d None
asks_no_frame d e = λ n level within low same. let is : None ≡ Some (frame_id n level) = e ∙ same in absurd (cc)
