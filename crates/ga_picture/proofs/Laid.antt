-- Rows, marks and groups appended one after another.
use Rattle.std.proofs.Common.{⊎_elim, ◌≡◌, ℕ, zero, suc, ◌+◌, ◌==◌, ◌&&◌, ◌||◌, Bool, true, false, List, [], ◌∷◌, ◌++◌, refl, sym, ap, ◌∙◌, subst, add-one, arith, true≢false, ◌<◌, ◌≤◌, length, take, get_or, append_assoc, drop, Some, None}
use Rattle.std.specs.Prelude.{not, if◌then◌else◌, map, nat_le, flat_map}
use Rattle.std.specs.List.{All}
use Rattle.std.proofs.lemmas.Bool.{cases_Bool, both_ways}
use Rattle.std.proofs.lemmas.List.{append-nil, take_more, take_all, drop_more, drop_all}
use Rattle.std.proofs.lemmas.List.Elements.{All-push}
use Rattle.ga_causal.specs.Dependence.{is_transfer_event}
use Rattle.ga_grid.specs.declared.node_id.NodeId.{NodeId}
use Rattle.ga_picture.specs.declared.item.PictureItem.{PictureItem}
use Rattle.ga_picture.specs.declared.placing.PictureRow.{PictureRow}
use Rattle.ga_picture.specs.Items.{picture_item_at_index, IsOwnEventIfPlain, run_event_count_before, run_event_count_after, folded_event_count, folded_event_count_at, has_event_own_row, row_event_positions_below}
use Rattle.ga_picture.specs.Drawing.{IsPictureRow}
use Rattle.ga_picture.specs.Picture.{IsSvgGroup, AreSvgGroups, row_index_of_event_from}
use Rattle.ga_picture.specs.declared.race_marks.RaceMark.{RaceMark}

-- ---- rows appended one after another

rows_none : (items : List PictureItem) (fold : ℕ) → row_event_positions_below items fold zero ≡ []
unfolding row_event_positions_below
rows_none items fold = refl

rows_one : (items : List PictureItem) (fold place : ℕ) → row_event_positions_below items fold (suc place) ≡ row_event_positions_below items fold place ++ (if has_event_own_row items fold place then place ∷ [] else [])
unfolding row_event_positions_below
rows_one items fold place = refl

rows_next : (items : List PictureItem) (fold place : ℕ) (has : Bool) → has_event_own_row items fold place ≡ has
    → row_event_positions_below items fold (place + 1) ≡ row_event_positions_below items fold place ++ (if has then place ∷ [] else [])
rows_next items fold place has e =
    ap (row_event_positions_below items fold) (add-one place) ∙ rows_one items fold place
    ∙ ap (λ (b : Bool). row_event_positions_below items fold place ++ (if b then place ∷ [] else [])) e

abbrev pub places_of : List PictureRow → List ℕ
places_of rows = map (λ (row : PictureRow). row.place) rows

-- the rows of the events up to a place
pub record AreLaid (items : List PictureItem) (fold : ℕ) (lines : List NodeId) (place : ℕ) (rows : List PictureRow) : Type 0 where
  pub places : places_of rows ≡ row_event_positions_below items fold place
  pub drawn : All (IsPictureRow items fold lines) rows

pub laid_none : (items : List PictureItem) (fold : ℕ) (lines : List NodeId) (rows : List PictureRow) → rows ≡ [] → AreLaid items fold lines 0 rows
laid_none items fold lines rows e = record {
  places = ap places_of e ∙ sym (rows_none items fold);
  drawn = subst (λ (z : List PictureRow). All (IsPictureRow items fold lines) z) (sym e) (λ k d l. absurd (grind arith));
}

places_push : (rows : List PictureRow) (row : PictureRow) → places_of (rows ++ row ∷ []) ≡ places_of rows ++ row.place ∷ []
places_push [] row = refl
places_push (x ∷ xs) row = ap (λ (z : List ℕ). x.place ∷ z) (places_push xs row)

pub laid_more : (items : List PictureItem) (fold : ℕ) (lines : List NodeId) (place : ℕ) (rows more : List PictureRow) (row : PictureRow) → AreLaid items fold lines place rows
    → has_event_own_row items fold place ≡ true → row.place ≡ place → IsPictureRow items fold lines row → more ≡ rows ++ row ∷ [] → AreLaid items fold lines (place + 1) more
laid_more items fold lines place rows more row a has at is e = record {
  places = ap places_of e ∙ places_push rows row ∙ ap (λ (z : ℕ). places_of rows ++ z ∷ []) at
      ∙ ap (λ (z : List ℕ). z ++ place ∷ []) a.places ∙ sym (rows_next items fold place true has);
  drawn = subst (λ (z : List PictureRow). All (IsPictureRow items fold lines) z) (sym e) (All-push (IsPictureRow items fold lines) rows row a.drawn is);
}

pub laid_same : (items : List PictureItem) (fold : ℕ) (lines : List NodeId) (place : ℕ) (rows : List PictureRow) → AreLaid items fold lines place rows
    → has_event_own_row items fold place ≡ false → AreLaid items fold lines (place + 1) rows
laid_same items fold lines place rows a has = record {
  places = a.places ∙ sym (append-nil (row_event_positions_below items fold place)) ∙ sym (rows_next items fold place false has);
  drawn = a.drawn;
}

-- what the code computes for an event is its value by the definition
pub steps_are : (items : List PictureItem) (fold place : ℕ) (item : PictureItem) (before behind steps : ℕ) → picture_item_at_index items place ≡ item → before ≡ run_event_count_before items place
    → behind ≡ run_event_count_after items place → steps ≡ folded_event_count item before behind fold → steps ≡ folded_event_count_at items fold place
steps_are items fold place item before behind steps here b f s =
    s ∙ ap (λ (z : ℕ). folded_event_count item z behind fold) b ∙ ap (λ (z : ℕ). folded_event_count item (run_event_count_before items place) z fold) f
    ∙ ap (λ (z : PictureItem). folded_event_count z (run_event_count_before items place) (run_event_count_after items place) fold) (sym here)

pub row_is : (items : List PictureItem) (fold place : ℕ) (item : PictureItem) (before steps : ℕ) (has : Bool) → picture_item_at_index items place ≡ item → before ≡ run_event_count_before items place
    → steps ≡ folded_event_count_at items fold place → has ≡ (not item.out && ((steps == 1) || (before == 0))) → has_event_own_row items fold place ≡ has
row_is items fold place item before steps has here b s h =
    ap (λ (z : PictureItem). not z.out && ((folded_event_count_at items fold place == 1) || (run_event_count_before items place == 0))) here
    ∙ ap (λ (z : ℕ). not item.out && ((z == 1) || (run_event_count_before items place == 0))) (sym s)
    ∙ ap (λ (z : ℕ). not item.out && ((steps == 1) || (z == 0))) (sym b) ∙ sym h

-- an event that has a row isn't left out
pub is_in : (out rest has : Bool) → has ≡ true → has ≡ (not out && rest) → out ≡ false
is_in true rest has h e = absurd (true≢false (sym h ∙ e))
is_in false rest has h e = refl

-- a pass is drawn alone
pub alone : (item : PictureItem) (before behind fold : ℕ) → IsOwnEventIfPlain item → is_transfer_event item.cause.event ≡ true → folded_event_count item before behind fold ≡ 1
alone item before behind fold simple p = ⊎_elim
    (λ t. absurd (both_ways (is_transfer_event item.cause.event) (simple t).0 p))
    (λ f. ap (λ (b : Bool). if b && (not (fold == 0) && nat_le fold (before + behind + 1)) then before + behind + 1 else 1) f)
    (cases_Bool item.plain)

pub steps_shown : (item : PictureItem) (shown steps before behind fold : ℕ) → IsOwnEventIfPlain item → steps ≡ folded_event_count item before behind fold
    → (is_transfer_event item.cause.event ≡ false → shown ≡ steps) → (is_transfer_event item.cause.event ≡ true → shown ≡ 1) → shown ≡ steps
steps_shown item shown steps before behind fold simple s many one = ⊎_elim
    (λ t. one t ∙ sym (s ∙ alone item before behind fold simple t))
    (λ f. many f)
    (cases_Bool (is_transfer_event item.cause.event))

-- ---- groups one after another

-- the groups of these classes after a head
abbrev pub AreBehind : List ℕ → List (List ℕ) → List ℕ → Type 0
AreBehind head classes text = (groups : List ℕ) × AreSvgGroups classes groups × (text ≡ head ++ groups)

groups_more : (classes : List (List ℕ)) (class groups group : List ℕ) → AreSvgGroups classes groups → IsSvgGroup class group → AreSvgGroups (classes ++ class ∷ []) (groups ++ group)
groups_more [] class groups group a g = (group, [], g, refl, ap (λ z. z ++ group) a ∙ sym (append-nil group))
groups_more (x ∷ xs) class groups group a g =
    (a.0, a.1 ++ group, a.2, groups_more xs class a.1 group a.3 g, ap (λ z. z ++ group) a.4 ∙ append_assoc a.0 a.1 group)

pub behind_more : (head : List ℕ) (classes : List (List ℕ)) (class text group new : List ℕ) → AreBehind head classes text → IsSvgGroup class group → new ≡ text ++ group → AreBehind head (classes ++ class ∷ []) new
behind_more head classes class text group new b g e =
    (b.0 ++ group, groups_more classes class b.0 group b.1 g, e ∙ ap (λ z. z ++ group) b.2 ∙ append_assoc head b.0 group)

map_push : {A : Type 0} (f : A → List ℕ) (xs : List A) (x : A) → map f (xs ++ x ∷ []) ≡ map f xs ++ f x ∷ []
map_push f [] x = refl
map_push f (y ∷ ys) x = ap (λ (z : List (List ℕ)). f y ∷ z) (map_push f ys x)

-- the classes of one more
pub classes_next : {A : Type 0} (f : A → List ℕ) (xs : List A) (at : ℕ) (x : A) → at < length xs → x ≡ get_or xs at x → map f (take (at + 1) xs) ≡ map f (take at xs) ++ f x ∷ []
classes_next f xs at x within is =
    ap (λ z. map f z) (take_more xs at x within) ∙ ap (λ z. map f (take at xs ++ z ∷ [])) (sym is) ∙ map_push f (take at xs) x

pub classes_all : {A : Type 0} (f : A → List ℕ) (xs : List A) (at : ℕ) (head text : List ℕ) → length xs ≤ at → AreBehind head (map f (take at xs)) text → AreBehind head (map f xs) text
classes_all f xs at head text past b = subst (λ z. AreBehind head (map f z) text) (take_all at xs past) b

-- ---- marks appended one after another

-- the first row of the rest is that of the event, or the search continues after it
pub row_next : (rows : List PictureRow) (start place at : ℕ) (d : PictureRow) (same : Bool) → at < length rows → same ≡ ((get_or rows at d).place + start == place)
    → row_index_of_event_from (drop at rows) start place at ≡ (if same then Some at else row_index_of_event_from (drop (at + 1) rows) start place (at + 1))
row_next rows start place at d same l e =
    ap (λ (z : List PictureRow). row_index_of_event_from z start place at) (drop_more rows at d l)
    ∙ ap (λ (b : Bool). if b then Some at else row_index_of_event_from (drop (at + 1) rows) start place (at + 1)) (sym e)

pub row_none : (rows : List PictureRow) (start place at : ℕ) → length rows ≤ at → row_index_of_event_from (drop at rows) start place at ≡ None
row_none rows start place at past = ap (λ (z : List PictureRow). row_index_of_event_from z start place at) (drop_all at rows past)

-- the marks of one more
pub marked_next : {A : Type 0} (f : A → List RaceMark) (xs : List A) (at : ℕ) (x : A) (now new all : List RaceMark) → at < length xs → x ≡ get_or xs at x
    → new ≡ now ++ f x → now ++ flat_map f (drop at xs) ≡ all → new ++ flat_map f (drop (at + 1) xs) ≡ all
marked_next f xs at x now new all l is e h =
    ap (λ (z : List RaceMark). z ++ flat_map f (drop (at + 1) xs)) e ∙ append_assoc now (f x) (flat_map f (drop (at + 1) xs))
    ∙ ap (λ z. now ++ flat_map f z) (sym (drop_more xs at x l ∙ ap (λ z. z ∷ drop (at + 1) xs) (sym is))) ∙ h

pub marked_all : {A : Type 0} (f : A → List RaceMark) (xs : List A) (at : ℕ) (now all : List RaceMark) → length xs ≤ at → now ++ flat_map f (drop at xs) ≡ all → now ≡ all
marked_all f xs at now all past h = sym (append-nil now) ∙ ap (λ z. now ++ flat_map f z) (sym (drop_all at xs past)) ∙ h
