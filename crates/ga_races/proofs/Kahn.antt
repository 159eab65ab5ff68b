-- Where each word has one possible writer nothing races.
use Rattle.std.proofs.Common.{◌≡◌, ℕ, Bool, true, false, cond, List, [], ◌∷◌, ◌++◌, Option, Some, None, option_map, refl, sym, ◌∙◌, ap, subst}
use Rattle.std.proofs.lemmas.Option.{same_Some}
use Rattle.ga_ports.specs.declared.side.Side.{Side}
use Rattle.ga_node.specs.Record.{NodeRecord}
use Rattle.ga_grid.specs.Grid.{neighbour_number}
use Rattle.ga_grid.specs.Chip.{node_record_at}
use Rattle.ga_grid.specs.declared.node_id.NodeId.{NodeId}
use Rattle.ga_event.specs.declared.event.Event.{Event}
use Rattle.ga_event.specs.declared.event.Event.TheVariants.{Pass}
use Rattle.ga_event.specs.declared.event.EventWithLook.{EventWithLook}
use Rattle.ga_event.specs.Touches.{touches}
use Rattle.ga_event.specs.Apply.{MadeEventOutcome, waits_to_write_side, waits_to_read_side, event_result, run_events, replay}
use Rattle.ga_causal.specs.Dependence.{HasNoLooks}
use Rattle.ga_causal.specs.Words.{outside_word_of_event, local_history_with_outside_words}
use Rattle.ga_causal.proofs.Runs.{causes}
use Rattle.ga_causal.proofs.Words.{same_node}
use Rattle.ga_races.specs.Orders.{IsEnabled, IsTerminalChip, IsRace, HasNoRace}
use Rattle.ga_races.specs.Kahn.{HasOneWriter}
use Rattle.ga_races.proofs.Independence.{replay_more, first_of, touches_reader}
use Rattle.ga_races.proofs.Orders.{order_read}
use Rattle.ga_races.proofs.Conflicts.{Open, open_of, number_of}
use Rattle.ga_races.proofs.Exact.{Entry, read_into, read_touched}
use Rattle.ga_races.proofs.Blind.{race_rivals, end_blind}

-- ---- a list cut where a node's local history is cut

record Cut (c : List NodeRecord) (n : ℕ) (es : List Event) (xs : List Entry) : Type 0 where
  first : List Event
  others : List Event
  is : es ≡ first ++ others
  read : local_history_with_outside_words n c first ≡ xs

record CutAt (c : List NodeRecord) (n : ℕ) (es : List Event) (xs : List Entry) (e : Event) : Type 0 where
  first : List Event
  others : List Event
  is : es ≡ first ++ e ∷ others
  read : local_history_with_outside_words n c first ≡ xs

pub head_is : (x y : Entry) (xs ys : List Entry) → x ∷ xs ≡ y ∷ ys → (x ≡ y) × (xs ≡ ys)
head_is x y xs ys h = (same_Some x y (ap first h), ap others h)
  where
    first : List Entry → Option Entry
    first [] = None
    first (z ∷ zs) = Some z

    others : List Entry → List Entry
    others [] = []
    others (z ∷ zs) = zs

cut_of : (es : List Event) (c : List NodeRecord) (n : ℕ) (xs ys : List Entry) → local_history_with_outside_words n c es ≡ xs ++ ys → Cut c n es xs
cut_of es c n [] ys h = record { first = []; others = es; is = refl; read = refl }
cut_of [] c n (x ∷ xs) ys h = absurd (cc)
cut_of (e ∷ es) c n (x ∷ xs) ys h = go (touches e n) refl h (λ zs k. cut_of es (event_result c e).0 n zs ys k)
  where
    go : (b : Bool) → touches e n ≡ b → cond b ((e, outside_word_of_event c e) ∷ local_history_with_outside_words n (event_result c e).0 es) (local_history_with_outside_words n (event_result c e).0 es) ≡ (x ∷ xs) ++ ys
        → ((zs : List Entry) → local_history_with_outside_words n (event_result c e).0 es ≡ zs ++ ys → Cut (event_result c e).0 n es zs) → Cut c n (e ∷ es) (x ∷ xs)
    go true t k again =
        let p = head_is (e, outside_word_of_event c e) x (local_history_with_outside_words n (event_result c e).0 es) (xs ++ ys) k in
        let a = again xs p.1 in
        record {
          first = e ∷ a.first;
          others = a.others;
          is = ap (λ (z : List Event). e ∷ z) a.is;
          read = ap (λ (b : Bool). cond b ((e, outside_word_of_event c e) ∷ local_history_with_outside_words n (event_result c e).0 a.first) (local_history_with_outside_words n (event_result c e).0 a.first)) t ∙ ap (λ (z : List Entry). (e, outside_word_of_event c e) ∷ z) a.read ∙ ap (λ (z : Entry). z ∷ xs) p.0;
        }
    go false t k again =
        let a = again (x ∷ xs) k in
        record {
          first = e ∷ a.first;
          others = a.others;
          is = ap (λ (z : List Event). e ∷ z) a.is;
          read = ap (λ (b : Bool). cond b ((e, outside_word_of_event c e) ∷ local_history_with_outside_words n (event_result c e).0 a.first) (local_history_with_outside_words n (event_result c e).0 a.first)) t ∙ a.read;
        }

cut_at : (es : List Event) (c : List NodeRecord) (n : ℕ) (xs ys : List Entry) (e : Event) (word : Option ℕ) → local_history_with_outside_words n c es ≡ xs ++ (e, word) ∷ ys → CutAt c n es xs e
cut_at [] c n [] ys e word h = absurd (cc)
cut_at [] c n (x ∷ xs) ys e word h = absurd (cc)
cut_at (f ∷ es) c n xs ys e word h = go (touches f n) refl h (λ zs k. cut_at es (event_result c f).0 n zs ys e word k)
  where
    by_list : (xs : List Entry) → touches f n ≡ true → (f, outside_word_of_event c f) ∷ local_history_with_outside_words n (event_result c f).0 es ≡ xs ++ (e, word) ∷ ys
        → ((zs : List Entry) → local_history_with_outside_words n (event_result c f).0 es ≡ zs ++ (e, word) ∷ ys → CutAt (event_result c f).0 n es zs e) → CutAt c n (f ∷ es) xs e
    by_list [] t k again =
        let p = head_is (f, outside_word_of_event c f) (e, word) (local_history_with_outside_words n (event_result c f).0 es) ys k in
        record { first = []; others = es; is = ap (λ (z : Entry). z.0 ∷ es) p.0; read = refl }
    by_list (x ∷ xs) t k again =
        let p = head_is (f, outside_word_of_event c f) x (local_history_with_outside_words n (event_result c f).0 es) (xs ++ (e, word) ∷ ys) k in
        let a = again xs p.1 in
        record {
          first = f ∷ a.first;
          others = a.others;
          is = ap (λ (z : List Event). f ∷ z) a.is;
          read = ap (λ (b : Bool). cond b ((f, outside_word_of_event c f) ∷ local_history_with_outside_words n (event_result c f).0 a.first) (local_history_with_outside_words n (event_result c f).0 a.first)) t ∙ ap (λ (z : List Entry). (f, outside_word_of_event c f) ∷ z) a.read ∙ ap (λ (z : Entry). z ∷ xs) p.0;
        }

    go : (b : Bool) → touches f n ≡ b → cond b ((f, outside_word_of_event c f) ∷ local_history_with_outside_words n (event_result c f).0 es) (local_history_with_outside_words n (event_result c f).0 es) ≡ xs ++ (e, word) ∷ ys
        → ((zs : List Entry) → local_history_with_outside_words n (event_result c f).0 es ≡ zs ++ (e, word) ∷ ys → CutAt (event_result c f).0 n es zs e) → CutAt c n (f ∷ es) xs e
    go true t k again = by_list xs t k again
    go false t k again =
        let a = again xs k in
        record {
          first = f ∷ a.first;
          others = a.others;
          is = ap (λ (z : List Event). f ∷ z) a.is;
          read = ap (λ (b : Bool). cond b ((f, outside_word_of_event c f) ∷ local_history_with_outside_words n (event_result c f).0 a.first) (local_history_with_outside_words n (event_result c f).0 a.first)) t ∙ a.read;
        }

-- a prefix of a list that can be made can be made
pub begins : (fs ys : List Event) (c last : List NodeRecord) → replay c (fs ++ ys) ≡ Some last → (now : List NodeRecord) × (replay c fs ≡ Some now)
begins [] ys c last h = (c, refl)
begins (e ∷ fs) ys c last h =
    let p = first_of c e (fs ++ ys) last h in
    let a = begins fs ys (event_result c e).0 last p.then in
    (a.0, replay_more c e fs p.can ∙ a.1)

-- ---- the law

module _ (c last : List NodeRecord) (es : List Event) (led : replay c es ≡ Some last) (one : HasOneWriter c es) (step other : Event) (r : IsRace c es step other) (w x y : NodeId) (s t : Side) (is : step ≡ Pass w y s) (too : other ≡ Pass x y t) where
  ends : Open r.now x y t
  ends = open_of r.now x y t (subst (λ (z : Event). IsEnabled r.now z) too r.can)

  read_all : (n : ℕ) → local_history_with_outside_words n c es ≡ local_history_with_outside_words n c r.before ++ local_history_with_outside_words n r.now (step ∷ r.later)
  read_all n = order_read n c es (r.before ++ step ∷ r.later) r.order ∙ read_into n r.before (step ∷ r.later) c r.now r.led

  reader_touched : touches step y.number ≡ true
  reader_touched = subst (λ (z : Event). touches z y.number ≡ true) (sym is) (touches_reader w y s)

  sides_same : t ≡ s
  sides_same =
      let a = cut_at es c y.number (local_history_with_outside_words y.number c r.before) _ step _ (read_all y.number ∙ ap (λ (z : List Entry). local_history_with_outside_words y.number c r.before ++ z) (read_touched y.number r.now step r.later reader_touched)) in
      let b = begins a.first (step ∷ a.others) c last (ap (λ (z : List Event). replay c z) (sym a.is) ∙ led) in
      let at_reader : node_record_at b.0 y.number ≡ node_record_at r.now y.number = same_node c c b.0 r.now a.first r.before y.number b.1 r.led refl refl a.read in
      let k = cut_of es c x.number (local_history_with_outside_words x.number c r.before) _ (read_all x.number) in
      let d = begins k.first k.others c last (ap (λ (z : List Event). replay c z) (sym k.is) ∙ led) in
      let at_writer : node_record_at d.0 x.number ≡ node_record_at r.now x.number = same_node c c d.0 r.now k.first r.before x.number d.1 r.led refl refl k.read in
      one.only a.first a.others k.first k.others b.0 d.0 w y x s t
      (a.is ∙ ap (λ (z : Event). a.first ++ z ∷ a.others) is) b.1
      (ap (λ (z : NodeRecord). waits_to_read_side z.wait t) at_reader ∙ ends.reads)
      k.is d.1 (number_of (neighbour_number x.number t) y.number ends.near)
      (ap (λ (z : NodeRecord). waits_to_write_side z.wait t) at_writer ∙ ends.writes)

pub one_writer_means_no_race : (c last : List NodeRecord) (es : List Event) (ts : List (EventWithLook × MadeEventOutcome)) → run_events c es ≡ Some (last, ts) → HasNoLooks (causes ts) → IsTerminalChip last → HasOneWriter c es → HasNoRace c es
one_writer_means_no_race c last es ts is none end one step other r =
    let a = race_rivals c last es ts is none (end_blind last end) step other r in
    a.sides (sym (sides_same c last es (ap (λ (o : Option (List NodeRecord × List (EventWithLook × MadeEventOutcome))). option_map (λ z. z.0) o) is) one step other r a.first a.second a.reader a.side a.other a.one a.two))
