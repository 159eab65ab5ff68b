-- A node is determined by its local history with the words.
use Rattle.std.proofs.Common.{◌≡◌, ℕ, ◌<◌, ◌==◌, Bool, true, false, ◌||◌, cond, inl, inr, List, [], ◌∷◌, length, set, Option, Some, None, refl, sym, ◌∙◌, ap, subst, arith, length-set, get_or-set_other, get_or-set_same, eqb-true, eq-eqb, ext_get_or, ◌++◌}
use Rattle.std.specs.Prelude.{unwrap_or, option_map}
use Rattle.std.proofs.lemmas.Bool.{cases_eq, cases_lt, or_cases, both_ways, cond-true, cond-false, ne_eqb, or_parts, or_from}
use Rattle.std.proofs.lemmas.List.{get_or_past}
use Rattle.std.proofs.lemmas.Option.{same_Some}
use Rattle.ga_ports.specs.Address.{address_target}
use Rattle.ga_ports.specs.declared.address.AddressTarget.{AddressTarget}
use Rattle.ga_ports.specs.declared.address.AddressTarget.TheVariants.{Ram, Rom, Io, Ports, Bad}
use Rattle.ga_ports.specs.declared.side.Side.{Side}
use Rattle.ga_node.specs.declared.wait.ReadKind.{ReadKind}
use Rattle.ga_node.specs.declared.wait.ReadKind.TheVariants.{Instruction, Stack}
use Rattle.ga_node.specs.declared.seen.SeenNeighbours.{SeenNeighbours}
use Rattle.ga_node.specs.declared.due.NextAction.{NextAction}
use Rattle.ga_node.specs.declared.due.NextAction.TheVariants as due
use Rattle.ga_node.specs.declared.kind.OwnEventKind.TheVariants as kind
use Rattle.ga_node.specs.declared.kind.EventRefusal.{EventRefusal}
use Rattle.ga_node.specs.Io.{io_word}
use Rattle.ga_node.specs.Record.{NodeRecord, record_of_node}
use Rattle.ga_node.specs.Changes.{node_after_changes as changed_by}
use Rattle.ga_node.specs.Table.{AddressAccess, Plain, Reads, Writes, own_event_after_access, target_read_result, access_with_following_changes, changes_or_event_of_access, opcode_effect, fetch_access, next_action_of_node, event_kind_and_changes_of_action, own_event, own, reads_io_next, register_t, sent, taken}
use Rattle.ga_node.proofs.Looks.{own_blind}
use Rattle.ga_grid.specs.Chip.{default_node, node_record_at}
use Rattle.ga_grid.specs.declared.node_id.NodeId.{NodeId}
use Rattle.ga_event.specs.declared.event.Event.{Event}
use Rattle.ga_event.specs.declared.event.Event.TheVariants.{Own, Pass}
use Rattle.ga_event.specs.declared.event.EventWithLook.{EventWithLook}
use Rattle.ga_event.specs.Apply.{MadeEventOutcome, neighbour_states, event_refusal, some_if_allowed, event_result, apply, event_with_look_on_chip, run_events, replay, AgreeOutsideMarks, shown_wait_state, shown_neighbour_state}
use Rattle.ga_causal.specs.Dependence.{event_with_look_touches_node}
use Rattle.ga_causal.specs.Words.{outside_word_of_event, local_history_with_outside_words, events_with_outside_words}
use Rattle.ga_causal.proofs.Runs.{first_of_run, keeps_of}
use Rattle.std.specs.List.{list_any, filter}
use Rattle.ga_ports.specs.declared.side.Side.TheVariants.{Right, Down, Left, Up}
use Rattle.ga_grid.specs.Grid.{neighbour_number}
use Rattle.ga_event.specs.Touches.{event_nodes, prepend_some, neighbours_of_node, looked_at_nodes, nodes_observed_by_event, observes_marked_node, touches as event_touches}
use Rattle.ga_event.proofs.Locality.{cause_alike}
use Rattle.ga_causal.specs.Equivalence.{AreIndependentEvents, AreEquivalentLists, same, swapped, later, joined}
use Rattle.ga_causal.proofs.Equivalences.{AreApart-sym, independent_on_all}
use Rattle.ga_causal.proofs.Consistent.{turned, swap_filter, not_both, kept_alike}

-- A node's own event depends on the word of `io` alone, whatever shows that word.

found_same : (target : AddressTarget) (reader : ReadKind) (seen other : SeenNeighbours) (n : NodeRecord) → io_word seen ≡ io_word other → target_read_result target reader seen n ≡ target_read_result target reader other n
unfolding target_read_result
found_same (Ram k) reader seen other n h = refl
found_same (Rom k) reader seen other n h = refl
found_same Io reader seen other n h = rw h refl
found_same (Ports sides) reader seen other n h = refl
found_same Bad reader seen other n h = refl

access_same : (reader : ReadKind) (access : AddressAccess) (seen other : SeenNeighbours) (n : NodeRecord) → io_word seen ≡ io_word other → changes_or_event_of_access reader access seen n ≡ changes_or_event_of_access reader access other n
access_same reader (Plain changes) seen other n h = refl
access_same reader (Reads address more) seen other n h = ap (λ target_read_result. access_with_following_changes target_read_result more) (found_same (address_target address) reader seen other n h)
access_same reader (Writes address more) seen other n h = refl

done_same : (due : NextAction) (seen other : SeenNeighbours) (n : NodeRecord) → io_word seen ≡ io_word other → event_kind_and_changes_of_action due seen n ≡ event_kind_and_changes_of_action due other n
done_same due.Fetch seen other n h = ap (own_event_after_access kind.Fetch) (access_same Instruction (fetch_access n) seen other n h)
done_same (due.Run op) seen other n h = ap (own_event_after_access _) (access_same Stack (opcode_effect op n) seen other n h)

own_same : (seen other : SeenNeighbours) (n : NodeRecord) → io_word seen ≡ io_word other → own seen n ≡ own other n
unfolding own own_event
own_same seen other n h = ap (λ event. (event.0, changed_by event.1 n)) (done_same (next_action_of_node n) seen other n h)

-- what an event with this word makes of a node that it touches
abbrev pub Becomes : ℕ → NodeRecord → Event → Option ℕ → NodeRecord → Type 0
Becomes n x (Own node) word y = (seen : SeenNeighbours) × (y ≡ (own seen x).1) × (word ≡ cond (reads_io_next x) (Some (io_word seen)) None)
Becomes n x (Pass writer reader side) word y = y ≡ cond (n == reader.number) (taken (unwrap_or word 0) x) (sent x)

pub own_once : (x : NodeRecord) (seen other : SeenNeighbours) → ◌≡◌ {A = Option ℕ} (cond (reads_io_next x) (Some (io_word seen)) None) (cond (reads_io_next x) (Some (io_word other)) None) → own seen x ≡ own other x
own_once x seen other = go (reads_io_next x) refl
  where
    go : (b : Bool) → reads_io_next x ≡ b → ◌≡◌ {A = Option ℕ} (cond b (Some (io_word seen)) None) (cond b (Some (io_word other)) None) → own seen x ≡ own other x
    go true is h = own_same seen other x (same_Some (io_word seen) (io_word other) h)
    go false is h = own_blind seen other x is

-- it makes one thing of it
pub becomes_one : (n : ℕ) (x : NodeRecord) (e : Event) (word : Option ℕ) (y z : NodeRecord) → Becomes n x e word y → Becomes n x e word z → y ≡ z
becomes_one n x (Own node) word y z (seen, p, q) (other, u, v) = p ∙ ap (λ d. d.1) (own_once x seen other (sym q ∙ v)) ∙ sym u
becomes_one n x (Pass writer reader side) word y z p q = p ∙ sym q

pub after_is : (c d : List NodeRecord) (e : Event) (told : MadeEventOutcome) → apply c e ≡ Some (d, told) → event_result c e ≡ (d, told)
after_is c d e told h = go (event_refusal c e) h
  where
    go : (o : Option EventRefusal) → some_if_allowed o (event_result c e) ≡ Some (d, told) → event_result c e ≡ (d, told)
    go None k = same_Some (event_result c e) (d, told) k
    go (Some why) k = absurd (cc)

own_becomes : (c : List NodeRecord) (node : NodeId) → node.number < length c → Becomes node.number (node_record_at c node.number) (Own node) (outside_word_of_event c (Own node)) (node_record_at (event_result c (Own node)).0 node.number)
own_becomes c node l = (neighbour_states c node.number, get_or-set_same c node.number _ (record_of_node default_node) l, refl)

pass_becomes : (c : List NodeRecord) (w r : NodeId) (side : Side) (n : ℕ) → n < length c → (((w.number == n) || ((r.number == n) || false)) ≡ true) → Becomes n (node_record_at c n) (Pass w r side) (outside_word_of_event c (Pass w r side)) (node_record_at (event_result c (Pass w r side)).0 n)
pass_becomes c w r side n l touched = elim (cases_eq n r.number) [ inl e ↦ as_reader e | inr ne ↦ as_writer ne ]
  where
    from : NodeRecord
    from = node_record_at c w.number

    mid : List NodeRecord
    mid = set c w.number (sent from)

    word : ℕ
    word = register_t from

    as_reader : n ≡ r.number → node_record_at (set mid r.number (taken word (node_record_at c r.number))) n ≡ cond (n == r.number) (taken word (node_record_at c n)) (sent (node_record_at c n))
    as_reader e =
        let size : length mid ≡ length c = length-set c w.number (sent from) in
        ap (λ (z : ℕ). node_record_at (set mid r.number (taken word (node_record_at c r.number))) z) e
        ∙ get_or-set_same mid r.number (taken word (node_record_at c r.number)) (record_of_node default_node) (omega (arith, e, l, size))
        ∙ ap (λ (z : ℕ). taken word (node_record_at c z)) (sym e)
        ∙ sym (cond-true (n == r.number) (taken word (node_record_at c n)) (sent (node_record_at c n)) (eq-eqb n r.number e))

    is_writer : (n ≡ r.number → ⊥) → n ≡ w.number
    is_writer ne = elim (or_cases (w.number == n) ((r.number == n) || false) touched) [
      | inl q ↦ sym (eqb-true w.number n q)
      | inr q ↦ elim (or_cases (r.number == n) false q) [ inl k ↦ absurd (ne (sym (eqb-true r.number n k))) | inr k ↦ absurd (both_ways false refl k) ]
    ]

    as_writer : (n ≡ r.number → ⊥) → node_record_at (set mid r.number (taken word (node_record_at c r.number))) n ≡ cond (n == r.number) (taken word (node_record_at c n)) (sent (node_record_at c n))
    as_writer ne =
        let e : n ≡ w.number = is_writer ne in
        get_or-set_other mid r.number n (taken word (node_record_at c r.number)) (record_of_node default_node) ne
        ∙ ap (λ (z : ℕ). node_record_at mid z) e
        ∙ get_or-set_same c w.number (sent from) (record_of_node default_node) (omega (arith, e, l))
        ∙ ap (λ (z : ℕ). sent (node_record_at c z)) (sym e)
        ∙ sym (cond-false (n == r.number) (taken word (node_record_at c n)) (sent (node_record_at c n)) (ne_eqb n r.number ne))

after_becomes : (n : ℕ) (c : List NodeRecord) (e : Event) → n < length c → event_with_look_touches_node (event_with_look_on_chip c e) n ≡ true → Becomes n (node_record_at c n) e (outside_word_of_event c e) (node_record_at (event_result c e).0 n)
after_becomes n c (Own node) l touched =
    let at : node.number ≡ n = elim (or_cases (node.number == n) false touched) [ inl q ↦ eqb-true node.number n q | inr q ↦ absurd (both_ways false refl q) ] in
    subst (λ z. Becomes z (node_record_at c z) (Own node) (outside_word_of_event c (Own node)) (node_record_at (event_result c (Own node)).0 z)) at (own_becomes c node (omega (arith, at, l)))
after_becomes n c (Pass w r side) l touched = pass_becomes c w r side n l touched

-- what an event that was made makes of a node that it touches
pub becomes_of : (n : ℕ) (c d : List NodeRecord) (e : Event) (told : MadeEventOutcome) → n < length c → apply c e ≡ Some (d, told) → event_with_look_touches_node (event_with_look_on_chip c e) n ≡ true → Becomes n (node_record_at c n) e (outside_word_of_event c e) (node_record_at d n)
becomes_of n c d e told l h touched =
    subst (λ z. Becomes n (node_record_at c n) e (outside_word_of_event c e) (node_record_at z n)) (ap (λ z. z.0) (after_is c d e told h)) (after_becomes n c e l touched)

-- the node that results from a local history
abbrev Lives : ℕ → NodeRecord → List (Event × Option ℕ) → NodeRecord → Type 0
Lives n x [] y = x ≡ y
Lives n x (a ∷ xs) y = (z : NodeRecord) × Becomes n x a.0 a.1 z × Lives n z xs y

lives_one : (n : ℕ) (x : NodeRecord) (xs : List (Event × Option ℕ)) (y z : NodeRecord) → Lives n x xs y → Lives n x xs z → y ≡ z
lives_one n x [] y z p q = sym p ∙ q
lives_one n x (a ∷ xs) y z (u, b, l) (v, c, m) = lives_one n v xs y z (subst (λ w. Lives n w xs y) (becomes_one n x a.0 a.1 u v b c) l) m

lived_more : (n : ℕ) (c mid : List NodeRecord) (e : Event) (told : MadeEventOutcome) (xs : List (Event × Option ℕ)) (y : NodeRecord) → n < length c → apply c e ≡ Some (mid, told) → Lives n (node_record_at mid n) xs y
    → (b : Bool) → event_with_look_touches_node (event_with_look_on_chip c e) n ≡ b → Lives n (node_record_at c n) (cond b ((e, outside_word_of_event c e) ∷ xs) xs) y
lived_more n c mid e told xs y l h after_it true is = (node_record_at mid n, becomes_of n c mid e told l h is, after_it)
lived_more n c mid e told xs y l h after_it false is = subst (λ z. Lives n z xs y) (sym ((keeps_of c e mid told h).same n is)) after_it

pub same_size : (c last : List NodeRecord) (es : List Event) (ts : List (EventWithLook × MadeEventOutcome)) → run_events c es ≡ Some (last, ts) → length c ≡ length last
same_size c last [] ts h = ap (λ (z : List NodeRecord × List (EventWithLook × MadeEventOutcome)). length z.0) (same_Some (c, []) (last, ts) h)
same_size c last (e ∷ es) ts h =
    let m = first_of_run c e es last ts h in
    (keeps_of c e m.mid m.told m.first).size ∙ same_size m.mid last es m.others m.then

lived : (n : ℕ) (c last : List NodeRecord) (es : List Event) (ts : List (EventWithLook × MadeEventOutcome)) → n < length c → run_events c es ≡ Some (last, ts) → Lives n (node_record_at c n) (local_history_with_outside_words n c es) (node_record_at last n)
lived n c last [] ts l h = ap (λ (z : List NodeRecord × List (EventWithLook × MadeEventOutcome)). node_record_at z.0 n) (same_Some (c, []) (last, ts) h)
lived n c last (e ∷ es) ts l h =
    let m = first_of_run c e es last ts h in
    let size : length c ≡ length m.mid = (keeps_of c e m.mid m.told m.first).size in
    let after_it = lived n m.mid last es m.others (omega (arith, l, size)) m.then in
    subst (λ d. Lives n (node_record_at c n) (cond (event_with_look_touches_node (event_with_look_on_chip c e) n) ((e, outside_word_of_event c e) ∷ local_history_with_outside_words n d es) (local_history_with_outside_words n d es)) (node_record_at last n)) (sym (ap (λ z. z.0) (after_is c m.mid e m.told m.first)))
    (lived_more n c m.mid e m.told (local_history_with_outside_words n m.mid es) (node_record_at last n) l m.first after_it (event_with_look_touches_node (event_with_look_on_chip c e) n) refl)

-- a list that can be replayed runs
pub ran : (c last : List NodeRecord) (es : List Event) → replay c es ≡ Some last → (ts : List (EventWithLook × MadeEventOutcome)) × (run_events c es ≡ Some (last, ts))
ran c last es h = go (run_events c es) refl h
  where
    go : (o : Option (List NodeRecord × List (EventWithLook × MadeEventOutcome))) → run_events c es ≡ o → option_map {U = List NodeRecord} (λ done. done.0) o ≡ Some last → (ts : List (EventWithLook × MadeEventOutcome)) × (run_events c es ≡ Some (last, ts))
    go None is k = absurd (cc)
    go (Some done) is k = (done.1, is ∙ ap (λ (z : List NodeRecord). Some (z, done.1)) (same_Some done.0 last k))

pub same_node : (chip other last now : List NodeRecord) (es fs : List Event) (n : ℕ) → replay chip es ≡ Some last → replay other fs ≡ Some now → length chip ≡ length other
    → node_record_at chip n ≡ node_record_at other n → local_history_with_outside_words n chip es ≡ local_history_with_outside_words n other fs → node_record_at last n ≡ node_record_at now n
same_node chip other last now es fs n h k size at alike =
    let a = ran chip last es h in
    let b = ran other now fs k in
    let here : length chip ≡ length last = same_size chip last es a.0 a.1 in
    let there : length other ≡ length now = same_size other now fs b.0 b.1 in
    elim (cases_lt n (length chip)) [
      | inl l ↦ lives_one n (node_record_at chip n) (local_history_with_outside_words n chip es) (node_record_at last n) (node_record_at now n) (lived n chip last es a.0 l a.1)
          (subst (λ z. Lives n (node_record_at chip n) z (node_record_at now n)) (sym alike)
          (subst (λ z. Lives n z (local_history_with_outside_words n other fs) (node_record_at now n)) (sym at) (lived n other now fs b.0 (omega (arith, l, size)) b.1)))
      | inr l ↦ get_or_past last n (record_of_node default_node) (omega (arith, l, here)) ∙ sym (get_or_past now n (record_of_node default_node) (omega (arith, l, size, there)))
    ]

pub same_chip : (chip last now : List NodeRecord) (es fs : List Event) → replay chip es ≡ Some last → replay chip fs ≡ Some now
    → ((n : ℕ) → local_history_with_outside_words n chip es ≡ local_history_with_outside_words n chip fs) → last ≡ now
same_chip chip last now es fs h k alike =
    let a = ran chip last es h in
    let b = ran chip now fs k in
    ext_get_or (record_of_node default_node) last now (sym (same_size chip last es a.0 a.1) ∙ same_size chip now fs b.0 b.1) (λ n l. same_node chip chip last now es fs n h k refl refl (alike n))

-- ---- Equivalent lists have the same local histories with the words.

-- a look reads the same word on chips that agree at its node and the neighbours

beside_alike : (marks : ℕ → Bool) (c d : List NodeRecord) (side : Side) (at : Option ℕ) (ns : List ℕ) → AgreeOutsideMarks marks c d → list_any marks (prepend_some at ns) ≡ false → (shown_neighbour_state c side at ≡ shown_neighbour_state d side at) × (list_any marks ns ≡ false)
beside_alike marks c d side None ns a free = (refl, free)
beside_alike marks c d side (Some n) ns a free =
    let p : (marks n ≡ false) × (list_any marks ns ≡ false) = or_parts (marks n) (list_any marks ns) free in
    (ap (λ (z : NodeRecord). shown_wait_state z.wait side) (a.same n p.0), p.1)

seen_alike : (marks : ℕ → Bool) (c d : List NodeRecord) (n : ℕ) → AgreeOutsideMarks marks c d → list_any marks (neighbours_of_node n) ≡ false → neighbour_states c n ≡ neighbour_states d n
unfolding neighbours_of_node neighbour_states
seen_alike marks c d n a free =
    let right = beside_alike marks c d Right (neighbour_number n Right) _ a free in
    let down = beside_alike marks c d Down (neighbour_number n Down) _ a right.1 in
    let left = beside_alike marks c d Left (neighbour_number n Left) _ a down.1 in
    let up = beside_alike marks c d Up (neighbour_number n Up) [] a left.1 in
    rw (right.0, down.0, left.0, up.0) refl

any_parts : (marks : ℕ → Bool) (a b : List ℕ) → list_any marks (a ++ b) ≡ false → (list_any marks a ≡ false) × (list_any marks b ≡ false)
any_parts marks [] b f = (refl, f)
any_parts marks (n ∷ a) b f =
    let p : (marks n ≡ false) × (list_any marks (a ++ b) ≡ false) = or_parts (marks n) (list_any marks (a ++ b)) f in
    let q = any_parts marks a b p.1 in
    (or_from (marks n) (list_any marks a) p.0 q.0, q.1)

sees_parts : (marks : ℕ → Bool) (c : List NodeRecord) (e : Event) → observes_marked_node marks (event_with_look_on_chip c e) ≡ false → (list_any marks (event_nodes e) ≡ false) × (list_any marks (looked_at_nodes e (event_with_look_on_chip c e).look) ≡ false)
unfolding nodes_observed_by_event
sees_parts marks c e free = any_parts marks (event_nodes e) (looked_at_nodes e (event_with_look_on_chip c e).look) free

word_alike : (marks : ℕ → Bool) (c d : List NodeRecord) (e : Event) → AgreeOutsideMarks marks c d → observes_marked_node marks (event_with_look_on_chip c e) ≡ false → outside_word_of_event c e ≡ outside_word_of_event d e
word_alike marks c d (Own node) a free =
    go (reads_io_next (node_record_at c node.number)) ((sees_parts marks c (Own node) free).1)
    ∙ ap (λ (z : NodeRecord). cond (reads_io_next z) (Some (io_word (neighbour_states d node.number))) None) (a.same node.number ((or_parts (marks node.number) false ((sees_parts marks c (Own node) free).0)).0))
  where
    go : (b : Bool) → list_any marks (looked_at_nodes (Own node) b) ≡ false → ◌≡◌ {A = Option ℕ} (cond b (Some (io_word (neighbour_states c node.number))) None) (cond b (Some (io_word (neighbour_states d node.number))) None)
    go true f = ap (λ (z : SeenNeighbours). Some (io_word z)) (seen_alike marks c d node.number a f)
    go false f = refl
word_alike marks c d (Pass w r side) a free =
    ap (λ (z : NodeRecord). Some (register_t z)) (a.same w.number ((or_parts (marks w.number) (marks r.number || false) ((sees_parts marks c (Pass w r side) free).0)).0))

two_words : (c d p : List NodeRecord) (e f : Event) (told other : MadeEventOutcome) (zs : List Event) → apply c e ≡ Some (d, told) → apply d f ≡ Some (p, other)
    → events_with_outside_words c (e ∷ f ∷ zs) ≡ (e, outside_word_of_event c e) ∷ (f, outside_word_of_event d f) ∷ events_with_outside_words p zs
two_words c d p e f told other zs h k =
    ap (λ (q : List NodeRecord × MadeEventOutcome). (e, outside_word_of_event c e) ∷ events_with_outside_words q.0 (f ∷ zs)) (after_is c d e told h)
    ∙ ap (λ (q : List NodeRecord × MadeEventOutcome). (e, outside_word_of_event c e) ∷ (f, outside_word_of_event d f) ∷ events_with_outside_words q.0 zs) (after_is d p f other k)

-- the other order of two independent events
swapped_alike : (n : ℕ) (c last : List NodeRecord) (e f : Event) (zs : List Event) (ts : List (EventWithLook × MadeEventOutcome)) → AreIndependentEvents (event_with_look_on_chip c e) (event_with_look_on_chip c f) → run_events c (e ∷ f ∷ zs) ≡ Some (last, ts)
    → local_history_with_outside_words n c (e ∷ f ∷ zs) ≡ local_history_with_outside_words n c (f ∷ e ∷ zs)
swapped_alike n c last e f zs ts h is =
    let m = first_of_run c e (f ∷ zs) last ts is in
    let k = first_of_run m.mid f zs last m.others m.then in
    let keeps = keeps_of c e m.mid m.told m.first in
    let q : event_with_look_on_chip c f ≡ event_with_look_on_chip m.mid f = cause_alike (event_with_look_touches_node (event_with_look_on_chip c e)) c m.mid f keeps (independent_on_all (event_with_look_on_chip c e) (event_with_look_on_chip c f) h) in
    let z = turned c m.mid k.mid e f m.told k.told m.first k.first (subst (AreIndependentEvents (event_with_look_on_chip c e)) q h) in
    let one : outside_word_of_event c f ≡ outside_word_of_event m.mid f = word_alike (event_with_look_touches_node (event_with_look_on_chip c e)) c m.mid f keeps (independent_on_all (event_with_look_on_chip c e) (event_with_look_on_chip c f) h) in
    let two : outside_word_of_event c e ≡ outside_word_of_event z.mid e = word_alike (event_with_look_touches_node (event_with_look_on_chip c f)) c z.mid e (keeps_of c f z.mid k.told z.first) (independent_on_all (event_with_look_on_chip c f) (event_with_look_on_chip c e) (AreApart-sym (event_with_look_on_chip c e) (event_with_look_on_chip c f) h)) in
    let test : Event × Option ℕ → Bool = λ x. event_touches x.0 n in
    ap (λ xs. filter test xs) (two_words c m.mid k.mid e f m.told k.told zs m.first k.first)
    ∙ ap (λ (w : Option ℕ). filter test ((e, outside_word_of_event c e) ∷ (f, w) ∷ events_with_outside_words k.mid zs)) (sym one)
    ∙ swap_filter test (e, outside_word_of_event c e) (f, outside_word_of_event c f) (events_with_outside_words k.mid zs) (not_both (event_with_look_on_chip c e) (event_with_look_on_chip c f) n h)
    ∙ ap (λ (w : Option ℕ). filter test ((f, outside_word_of_event c f) ∷ (e, w) ∷ events_with_outside_words k.mid zs)) two
    ∙ ap (λ xs. filter test xs) (sym (two_words c z.mid k.mid f e k.told m.told zs z.first z.second))

received : (n : ℕ) (c : List NodeRecord) (xs ys : List Event) → AreEquivalentLists c xs ys → (last : List NodeRecord) (ts : List (EventWithLook × MadeEventOutcome)) → run_events c xs ≡ Some (last, ts) → local_history_with_outside_words n c xs ≡ local_history_with_outside_words n c ys
received n c xs ys same last ts is = refl
received n c xs ys (swapped {e} {f} {xs = zs} h) last ts is = swapped_alike n c last e f zs ts h is
received n c xs ys (later {now} {e} {told} {xs = us} {ys = vs} h k) last ts is =
    let m = first_of_run c e us last ts is in
    let at : m.mid ≡ now = ap (λ (w : List NodeRecord × MadeEventOutcome). w.0) (same_Some (m.mid, m.told) (now, told) (sym m.first ∙ h)) in
    let there : (event_result c e).0 ≡ now = ap (λ (w : List NodeRecord × MadeEventOutcome). w.0) (after_is c now e told h) in
    let on : local_history_with_outside_words n now us ≡ local_history_with_outside_words n now vs = received n now us vs k last m.others (subst (λ w. run_events w us ≡ Some (last, m.others)) at m.then) in
    ap (λ (z : List (Event × Option ℕ)). cond (event_touches e n) ((e, outside_word_of_event c e) ∷ z) z) (ap (λ d. local_history_with_outside_words n d us) there ∙ on ∙ sym (ap (λ d. local_history_with_outside_words n d vs) there))
received n c xs ys (joined {ys = zs} h k) last ts is =
    let b = kept_alike c last xs zs ts is h in
    received n c xs zs h last ts is ∙ received n c zs ys k last b.0 b.1

pub same_received : (chip last : List NodeRecord) (events others : List Event) (n : ℕ) → replay chip events ≡ Some last → AreEquivalentLists chip events others → local_history_with_outside_words n chip events ≡ local_history_with_outside_words n chip others
same_received chip last events others n is h = let r = ran chip last events is in received n chip events others h last r.0 r.1
