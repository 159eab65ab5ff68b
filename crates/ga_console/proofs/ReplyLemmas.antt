-- What a call of the lab means for the command.
use Rattle.std.proofs.Common.{◌≡◌, ℕ, ◌-◌, ◌⊎◌, List, [], ◌∷◌, ◌++◌, length, map, take, Option, Some, None, Result, Ok, Err, inl, inr, refl, sym, ap, ◌∙◌}
use Rattle.std.specs.Prelude.{IsOk, flat_map}
use Rattle.std.proofs.lemmas.List.{length-map}
use Rattle.ga_node.specs.Record.{NodeRecord}
use Rattle.ga_grid.specs.declared.node_id.NodeId.{NodeId}
use Rattle.ga_image.specs.Printing.{printed_image}
use Rattle.ga_event.specs.declared.event.Event.{Event}
use Rattle.ga_causal.specs.declared.chain.ChainLink.{ChainLink}
use Rattle.ga_event.specs.declared.made.MadeEvent.{MadeEvent}
use Rattle.ga_event.specs.Told.{made_event_at_place}
use Rattle.ga_lab.specs.Machine.{MachineState, chip_of_machine, step_answer, state_after_step, state_after_undo, rewind_answer, state_after_rewind, undo_answer, undo_answer_for_events, history_of_node, machine_events_with_outcomes, why_answer}
use Rattle.ga_lab.specs.declared.fault.LabFault.{LabFault}
use Rattle.ga_lab.specs.declared.fault.LabFault.TheVariants as fault
use Rattle.ga_display.specs.declared.wording.RefusalWording.{RefusalWording}
use Rattle.ga_display.specs.declared.wording.RefusalWording.TheVariants.{Brief, Advised}
use Rattle.ga_display.specs.Texts.{event_text, removed_events_text, worded_refusal_text, chain_header_text, independent_steps_text}
use Rattle.ga_console.specs.Replies.{Reply, IsCommandReply, step_reply, back_reply, rewind_reply, step_refusal, first_node_lacking_step, steps_text, optional_event_text, chain_link_text, chain_of_causes_reply_text}
use Rattle.ga_console.specs.declared.command.DebuggerCommand.TheVariants.{Step, Back, Rewind, Trace, Why, Dump}

-- an answer with a machine
pub replies : (text other : List ℕ) (new next : MachineState) → text ≡ other → new ≡ next
    → let answer : Reply = (text, new) in let wanted : Reply = (other, next) in answer ≡ wanted
replies text other new next e f =
    let with_text : List ℕ → Reply = λ t. (t, new) in
    let with_state : MachineState → Reply = λ s. (other, s) in ap with_text e ∙ ap with_state f

err_same : {T : Type 0} (a b : LabFault) → let first : Result T LabFault = Err a in let second : Result T LabFault = Err b in first ≡ second → a ≡ b
err_same a b e = cc

-- the answer that is right, or want of memory where that is none
abbrev pub IsAnswer : {T : Type 0} → Result T LabFault → Result T LabFault → Type 0
IsAnswer right answer = (answer ≡ right) ⊎ ((answer ≡ Err fault.Memory) × IsOk right)

-- ---- step

pub step_made : (w : RefusalWording) (s : MachineState) (node : NodeId) (made : MadeEvent) (text : List ℕ) (new : MachineState)
    → IsAnswer (step_answer s node) (Ok made)
    → new ≡ state_after_step s node → text ≡ event_text made → IsCommandReply w s (Step node) text new
step_made w s node made text new (inl e) f t =
    inl (replies text (event_text made) new (state_after_step s node) t f ∙ ap (λ (r : Result MadeEvent LabFault). step_reply w s node r) e)
step_made w s node made text new (inr e) f t = absurd (let bad = e.0 in cc)

pub step_refused : (w : RefusalWording) (s : MachineState) (node : NodeId) (why : LabFault) (text : List ℕ) (new : MachineState)
    → IsAnswer (step_answer s node) (Err why)
    → new ≡ s → text ≡ worded_refusal_text w why → IsCommandReply w s (Step node) text new
step_refused w s node why text new (inl e) f t =
    inl (replies text (worded_refusal_text w why) new s t f ∙ ap (λ (r : Result MadeEvent LabFault). step_reply w s node r) e)
step_refused w s node why text new (inr e) f t = inr (e.1, t ∙ ap (worded_refusal_text w) (err_same why fault.Memory e.0), f)

-- ---- back

pub back_done : (w : RefusalWording) (s : MachineState) (text : List ℕ) (new : MachineState) (kept : ℕ) → let done : Result (Unit {0}) LabFault = Ok tt in done ≡ undo_answer s
    → new ≡ state_after_undo s → kept ≡ length new.kept → text ≡ removed_events_text 1 kept → IsCommandReply w s Back text new
back_done w s text new kept e f counts t =
    inl (replies text (removed_events_text 1 (length (state_after_undo s).kept)) new (state_after_undo s)
    (t ∙ ap (removed_events_text 1) (counts ∙ ap (λ (n : MachineState). length n.kept) f)) f ∙ ap (back_reply w s) e)

pub back_refused : (w : RefusalWording) (s : MachineState) (why : LabFault) (text : List ℕ) (new : MachineState) → let refused : Result (Unit {0}) LabFault = Err why in refused ≡ undo_answer s
    → new ≡ state_after_undo s → text ≡ worded_refusal_text w why → IsCommandReply w s Back text new
back_refused w s why text new e f t =
    inl (replies text (worded_refusal_text w why) new s t (f ∙ go s.kept refl e) ∙ ap (back_reply w s) e) where
      go : (events : List Event) → s.kept ≡ events → let refused : Result (Unit {0}) LabFault = Err why in refused ≡ undo_answer_for_events events → state_after_undo s ≡ s
      go [] is refused =
          let last : List Event → MachineState = λ es. record s { kept = take (length es - 1) es } in
          let whole : List Event → MachineState = λ es. record s { kept = es } in
          let none : last [] ≡ whole [] = refl in
          ap last is ∙ none ∙ ap whole (sym is)
      go (event ∷ events) is refused = absurd (let bad = refused in cc)

-- ---- rewind

pub rewind_done : (w : RefusalWording) (s : MachineState) (node : NodeId) (k : ℕ) (removed kept : ℕ) (text : List ℕ) (new : MachineState) → Ok removed ≡ rewind_answer s node.number k
    → new ≡ state_after_rewind s node.number k → kept ≡ length new.kept → text ≡ removed_events_text removed kept → IsCommandReply w s (Rewind node k) text new
rewind_done w s node k removed kept text new e f counts t =
    let after : MachineState = state_after_rewind s node.number k in
    inl (replies text (removed_events_text removed (length after.kept)) new after (t ∙ ap (removed_events_text removed) (counts ∙ ap (λ (n : MachineState). length n.kept) f)) f
    ∙ ap (rewind_reply w s node after) e)

pub rewind_refused : (w : RefusalWording) (s : MachineState) (node : NodeId) (k : ℕ) (why : LabFault) (text : List ℕ) (new : MachineState) → Err why ≡ rewind_answer s node.number k
    → new ≡ s → text ≡ step_refusal w s node why → IsCommandReply w s (Rewind node k) text new
rewind_refused w s node k why text new e f t =
    inl (replies text (step_refusal w s node why) new s t f ∙ ap (λ (r : Result ℕ LabFault). rewind_reply w s node (state_after_rewind s node.number k) r) e)

-- ---- trace

pub trace_done : (w : RefusalWording) (s : MachineState) (node : NodeId) (steps : List MadeEvent) (text : List ℕ) → steps ≡ history_of_node s node.number → text ≡ steps_text node steps
    → IsCommandReply w s (Trace node) text s
trace_done w s node steps text e t = inl (replies text (steps_text node (history_of_node s node.number)) s s (t ∙ ap (steps_text node) e) refl)

pub trace_refused : (w : RefusalWording) (s : MachineState) (node : NodeId) (why : LabFault) (text : List ℕ) → why ≡ fault.Memory → text ≡ worded_refusal_text w why → IsCommandReply w s (Trace node) text s
trace_refused w s node why text e t = inr (tt, t ∙ ap (worded_refusal_text w) e, refl)

-- ---- dump

pub dump_done : (w : RefusalWording) (s : MachineState) (chip : List NodeRecord) (text said : List ℕ) → chip ≡ chip_of_machine s → text ≡ printed_image chip → said ≡ text → IsCommandReply w s Dump said s
dump_done w s chip text said e t f = inl (replies said (printed_image (chip_of_machine s)) s s (f ∙ t ∙ ap printed_image e) refl)

pub dump_refused : (w : RefusalWording) (s : MachineState) (text : List ℕ) → text ≡ worded_refusal_text w fault.Memory → IsCommandReply w s Dump text s
dump_refused w s text t = inr (tt, t, refl)

-- ---- why

-- out of memory is worded without the node
memory_refused : (w : RefusalWording) (s : MachineState) (node : NodeId) → step_refusal w s node fault.Memory ≡ worded_refusal_text w fault.Memory
memory_refused Brief s node = refl
memory_refused Advised s node = refl

why_done : (w : RefusalWording) (s : MachineState) (from to : NodeId) (k j : ℕ) (answer : Result (Option (List ChainLink)) LabFault) (text : List ℕ)
    → IsAnswer (why_answer s from.number k to.number j) answer
    → text ≡ chain_of_causes_reply_text w s (first_node_lacking_step s from k to) answer → IsCommandReply w s (Why from k to j) text s
why_done w s from to k j answer text (inl e) t =
    inl (replies text (chain_of_causes_reply_text w s (first_node_lacking_step s from k to) (why_answer s from.number k to.number j)) s s (t ∙ ap (chain_of_causes_reply_text w s (first_node_lacking_step s from k to)) e) refl)
why_done w s from to k j answer text (inr e) t = inr (e.1, t ∙ ap (chain_of_causes_reply_text w s (first_node_lacking_step s from k to)) e.0 ∙ memory_refused w s (first_node_lacking_step s from k to), refl)

pub why_independent : (w : RefusalWording) (s : MachineState) (from to : NodeId) (k j : ℕ) → why_answer s from.number k to.number j ≡ Ok None → IsCommandReply w s (Why from k to j) independent_steps_text s
why_independent w s from to k j e = why_done w s from to k j (Ok None) independent_steps_text (inl (sym e)) refl

-- the texts of the reports of a chain are those of its links
told_texts : (s : MachineState) (told : List MadeEvent) (links : List ChainLink) → map Some told ≡ map (λ (link : ChainLink). made_event_at_place (machine_events_with_outcomes s) link.place) links
    → flat_map event_text told ≡ flat_map (chain_link_text s) links
told_texts s [] [] e = refl
told_texts s [] (link ∷ links) e = absurd (cc)
told_texts s (made ∷ told) [] e = absurd (cc)
told_texts s (made ∷ told) (link ∷ links) e =
    let first : Some made ≡ made_event_at_place (machine_events_with_outcomes s) link.place = cc in
    let others : map Some told ≡ map (λ (link : ChainLink). made_event_at_place (machine_events_with_outcomes s) link.place) links = cc in
    ap (λ (o : Option MadeEvent). optional_event_text o ++ flat_map event_text told) first ∙ ap (λ z. chain_link_text s link ++ z) (told_texts s told links others)

pub why_told : (w : RefusalWording) (s : MachineState) (from to : NodeId) (k j : ℕ) (links : List ChainLink) (told said : List MadeEvent) (text : List ℕ)
    → why_answer s from.number k to.number j ≡ Ok (Some links) → map Some told ≡ map (λ (link : ChainLink). made_event_at_place (machine_events_with_outcomes s) link.place) links
    → said ≡ told → text ≡ chain_header_text (length said) ++ flat_map event_text said → IsCommandReply w s (Why from k to j) text s
why_told w s from to k j links told said text e same is t =
    let long : length told ≡ length links =
    sym (length-map told (λ (made : MadeEvent). Some made)) ∙ ap length same ∙ length-map links (λ (link : ChainLink). made_event_at_place (machine_events_with_outcomes s) link.place) in
    why_done w s from to k j (Ok (Some links)) text (inl (sym e))
    (t ∙ ap (λ z. chain_header_text (length z) ++ flat_map event_text z) is ∙ ap (λ (n : ℕ). chain_header_text n ++ flat_map event_text told) long
    ∙ ap (λ z. chain_header_text (length links) ++ z) (told_texts s told links same))

pub why_refused : (w : RefusalWording) (s : MachineState) (from to : NodeId) (k j : ℕ) (why : LabFault) (text : List ℕ)
    → (why_answer s from.number k to.number j ≡ Err why) ⊎ ((why ≡ fault.Memory) × IsOk (why_answer s from.number k to.number j))
    → text ≡ step_refusal w s (first_node_lacking_step s from k to) why → IsCommandReply w s (Why from k to j) text s
why_refused w s from to k j why text (inl e) t = why_done w s from to k j (Err why) text (inl (sym e)) t
why_refused w s from to k j why text (inr e) t =
    inr (e.1, t ∙ ap (step_refusal w s (first_node_lacking_step s from k to)) e.0 ∙ memory_refused w s (first_node_lacking_step s from k to), refl)
