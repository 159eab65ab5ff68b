-- Messages that are sent one after another.
use Rattle.std.proofs.Common.{◌≡◌, ℕ, Option, subst, List, [], ◌∷◌, ◌++◌, Result, Ok, Err, refl, ap, ◌<◌, ◌+◌, ◌/◌, ◌%◌, ◌^◌, ◌∙◌, decimal, slice_index, arith, Bool, length, set, sym, add-one, inl, inr, false, get_or-set_other}
use Rattle.ga_text.specs.Lines.{Text}
use Rattle.ga_grid.specs.declared.node_id.NodeId.{NodeId}
use Rattle.ga_dap_protocol.specs.declared.request.ClientRequest.{ClientRequest}
use Rattle.ga_dap_queries.specs.declared.debuggee.Debuggee.{Debuggee}
use Rattle.ga_dap_queries.specs.Disassembling.{DisassemblesWithinLimit, DisassemblesRequestedCount, DisassemblesReference}
use Rattle.ga_dap_queries.specs.Sending.{Message, SendsMessage, SendsMessages, success_response}
use Rattle.std.specs.Prelude.{OnOk}
use Rattle.serde_json.specs.Data.{Data}
use Rattle.ga_dap_protocol.specs.Sent.{OutboxContent}
use Rattle.std.proofs.lemmas.Fmt.{decimal_digit}
use Rattle.std.proofs.lemmas.List.{append_assoc}
use Rattle.hex.specs.Hex.{encode_with, encode_lower, lower_digits}
use Rattle.ga_word.proofs.HexText.{six_same}
use Rattle.ga_word.specs.Word.{hex_digits_of_word}
use Rattle.std.proofs.lemmas.Bool.{cases_eq}
use Rattle.std.proofs.lemmas.Grind.{get_or-set_at}
use Rattle.ga_causal.specs.Dependence.{is_node_flagged}
use Rattle.ga_dap_queries.specs.Events.{thread_change_messages, thread_change_messages_below}

-- ---- what is sent about memory, by what the request names

pub with_reference : (p : Debuggee) (request : ClientRequest) (a b : Option Text) (message : Message) → a ≡ b → DisassemblesReference p request a message → DisassemblesReference p request b message
with_reference p request a b message e told = subst (λ (z : Option Text). DisassemblesReference p request z message) e told

pub with_count : (p : Debuggee) (request : ClientRequest) (at : NodeId × ℕ) (a b : Option ℕ) (message : Message) → a ≡ b → DisassemblesRequestedCount p request at a message
    → DisassemblesRequestedCount p request at b message
with_count p request at a b message e told = subst (λ (z : Option ℕ). DisassemblesRequestedCount p request at z message) e told

pub with_within : (p : Debuggee) (request : ClientRequest) (at : NodeId × ℕ) (a b : Option ℕ) (message : Message) → a ≡ b → DisassemblesWithinLimit p request at a message
    → DisassemblesWithinLimit p request at b message
with_within p request at a b message e told = subst (λ (z : Option ℕ). DisassemblesWithinLimit p request at z message) e told

pub sent_one : (old : OutboxContent) (message : Message) (new : OutboxContent) → SendsMessage old message new → SendsMessages old (message ∷ []) new
sent_one old message new one = (new, one, refl)

pub sent_both : (old : OutboxContent) (xs : List Message) (between : OutboxContent) (ys : List Message) (new : OutboxContent) → SendsMessages old xs between → SendsMessages between ys new
    → SendsMessages old (xs ++ ys) new
sent_both old [] between ys new first rest = subst (λ (z : OutboxContent). SendsMessages z ys new) first rest
sent_both old (x ∷ xs) between ys new first rest = (first.0, first.1, sent_both first.0 xs between ys new first.2 rest)

pub sent_next : (old : OutboxContent) (xs : List Message) (between : OutboxContent) (message : Message) (new : OutboxContent) → SendsMessages old xs between → SendsMessage between message new
    → SendsMessages old (xs ++ (message ∷ [])) new
sent_next old xs between message new first one = sent_both old xs between (message ∷ []) new first (sent_one between message new one)

-- what holds if a call succeeded, in other words
pub ok_then : {T E P Q : Type 0} → (r : Result T E) → OnOk r P → (P → Q) → OnOk r Q
ok_then (Ok x) p f = f p
ok_then (Err e) p f = tt

-- a response whose body is what it is to be
pub answers_so : (request : ClientRequest) (body wanted : Data) (old new : OutboxContent) → body ≡ wanted → SendsMessage old (success_response request body) new
    → (message : Message) × (message ≡ success_response request wanted) × SendsMessage old message new
answers_so request body wanted old new e sent = (success_response request body, ap (success_response request) e, sent)

-- ---- digits of names and of references to memory

pub three_digits : (a b c : ℕ) → a < 10 → b < 10 → c < 10 → (old new : Text) → new ≡ old ++ decimal a ++ decimal b ++ decimal c
    → new ≡ old ++ (48 + a) ∷ (48 + b) ∷ (48 + c) ∷ []
three_digits a b c la lb lc old new added =
    added
    ∙ ap (λ (z : Text). old ++ z ++ decimal b ++ decimal c) (decimal_digit a la)
    ∙ ap (λ (z : Text). old ++ ((48 + a) ∷ []) ++ z ++ decimal c) (decimal_digit b lb)
    ∙ ap (λ (z : Text). old ++ ((48 + a) ∷ []) ++ ((48 + b) ∷ []) ++ z) (decimal_digit c lc)
    ∙ append_assoc (old ++ ((48 + a) ∷ [])) ((48 + b) ∷ []) ((48 + c) ∷ [])
    ∙ append_assoc old ((48 + a) ∷ []) ((48 + b) ∷ (48 + c) ∷ [])

pub six_digits : (n : ℕ) → n < 2 ^ 24 → encode_lower (n / 65536 ∷ n / 256 % 256 ∷ n % 256 ∷ []) ≡ hex_digits_of_word n
unfolding encode_with
six_digits n h =
    six_same _ _ _ _ _ _ _ _ _ _ _ _
    (ap (slice_index lower_digits) (omega (arith, h)))
    (ap (slice_index lower_digits) (omega arith))
    (ap (slice_index lower_digits) (omega arith))
    (ap (slice_index lower_digits) (omega arith))
    (ap (slice_index lower_digits) (omega arith))
    (ap (slice_index lower_digits) (omega arith))

-- ---- marks of the nodes, one after another

pub marked_more : (flags : List Bool) (k : ℕ) (b : Bool) (f : ℕ → Bool) → k < length flags → ((n : ℕ) → n < k → is_node_flagged flags n ≡ f n) → b ≡ f k
    → (n : ℕ) → n < k + 1 → is_node_flagged (set flags k b) n ≡ f n
marked_more flags k b f within old e n lt = elim (cases_eq n k) as (λ w. is_node_flagged (set flags k b) n ≡ f n) [
  | inl q ↦ (let here : is_node_flagged (set flags k b) n ≡ b = get_or-set_at flags k n b false q within in here ∙ e ∙ ap f (sym q))
  | inr ne ↦ (let here : is_node_flagged (set flags k b) n ≡ is_node_flagged flags n = get_or-set_other flags k n b false ne in here ∙ old n (omega (arith, lt, ne)))
]

pub none_changed : (before now : ℕ → Bool) (old : OutboxContent) → SendsMessages old (thread_change_messages_below before now 0) old
unfolding thread_change_messages_below
none_changed before now old = refl

pub next_changed : (before now : ℕ → Bool) (n m : ℕ) (b c : Bool) (old between new : OutboxContent) → m ≡ n → b ≡ before m → c ≡ now m
    → SendsMessages old (thread_change_messages_below before now n) between → SendsMessages between (thread_change_messages b c m) new → SendsMessages old (thread_change_messages_below before now (n + 1)) new
unfolding thread_change_messages_below
next_changed before now n m b c old between new e was is first rest =
    let same : SendsMessages between (thread_change_messages (before n) (now n) n) new =
    subst (λ (k : ℕ). SendsMessages between (thread_change_messages (before k) (now k) k) new) e
    (subst (λ (x : Bool). SendsMessages between (thread_change_messages x (now m) m) new) was (subst (λ (y : Bool). SendsMessages between (thread_change_messages b y m) new) is rest)) in
    rw add-one (sent_both old (thread_change_messages_below before now n) between (thread_change_messages (before n) (now n) n) new first same)
