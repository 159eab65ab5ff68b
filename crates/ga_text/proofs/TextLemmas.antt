-- The lines of a text, and an image as it is read, part by part.
use Rattle.std.proofs.Common.{◌≡◌, ℕ, ◌+◌, ◌/◌, ◌%◌, ◌<◌, Bool, true, false, cond, List, [], ◌∷◌, ◌++◌, length, refl, ap, ◌∙◌, arith, append_assoc, ◌-◌, take, drop, sym}
use Rattle.std.specs.List.{AllByRecursion}
use Rattle.std.proofs.lemmas.List.{append-nil, take_all, length-drop}
use Rattle.std.proofs.lemmas.List.Elements.{recursion_from_All, All-append, All-nil}
use Rattle.ga_text.specs.Lines.{lines_of_text, lines_with_added_front_byte, is_line_end_byte, HasNoLineFeed, line_with_line_feed, text_of_lines, terminated_lines_with_front_byte, terminated_lines}
use Rattle.ga_grid.specs.Grid.{decimal_name_of_node}
use Rattle.ga_grid.specs.declared.node_id.NodeId.{NodeId}
use Rattle.ga_text.specs.Digits.{name_of_node}
use Rattle.ga_text.specs.inner.{two_digits}
use Rattle.std.proofs.lemmas.Grind.{flat_map-append}
use Rattle.ga_text.specs.Image.{IsImageBodyLine, image_end_line, HasNoEndLine}

-- no line feed, byte by byte
NoFeed : List ℕ → Type 0
NoFeed bytes = AllByRecursion (λ b. is_line_end_byte b ≡ false) bytes

by_byte : (bytes : List ℕ) → HasNoLineFeed bytes → NoFeed bytes
unfolding NoFeed
by_byte bytes h = recursion_from_All (λ b. is_line_end_byte b ≡ false) bytes h

otherwise : {A : Type 0} (b : Bool) (x y : A) → b ≡ false → cond b x y ≡ y
otherwise b x y e = rw e refl

lines_at : (line more : List ℕ) → NoFeed line → lines_of_text (line ++ 10 ∷ more) ≡ line ∷ lines_of_text more
unfolding NoFeed
lines_at [] more h = refl
lines_at (b ∷ line) more h = otherwise (is_line_end_byte b) _ _ h.0 ∙ ap (lines_with_added_front_byte b) (lines_at line more h.1)

ended_at : (line more : List ℕ) → NoFeed line → terminated_lines (line ++ 10 ∷ more) ≡ line ∷ terminated_lines more
unfolding NoFeed
ended_at [] more h = refl
ended_at (b ∷ line) more h = otherwise (is_line_end_byte b) _ _ h.0 ∙ ap (terminated_lines_with_front_byte b) (ended_at line more h.1)

ended_by_byte : (bytes : List ℕ) → NoFeed bytes → terminated_lines bytes ≡ []
unfolding NoFeed
ended_by_byte [] h = refl
ended_by_byte (b ∷ bytes) h = otherwise (is_line_end_byte b) _ _ h.0 ∙ ap (terminated_lines_with_front_byte b) (ended_by_byte bytes h.1)

last_by_byte : (b : ℕ) (bytes : List ℕ) → NoFeed (b ∷ bytes) → lines_of_text (b ∷ bytes) ≡ (b ∷ bytes) ∷ []
unfolding NoFeed
last_by_byte b [] h = otherwise (is_line_end_byte b) _ _ h.0
last_by_byte b (x ∷ bytes) h = otherwise (is_line_end_byte b) _ _ h.0 ∙ ap (lines_with_added_front_byte b) (last_by_byte x bytes h.1)

pub lines_front : (lines : List (List ℕ)) (tail : List ℕ) → AllByRecursion HasNoLineFeed lines → lines_of_text (text_of_lines lines ++ tail) ≡ lines ++ lines_of_text tail
lines_front [] tail h = refl
lines_front (line ∷ lines) tail h =
    ap lines_of_text (append_assoc (line_with_line_feed line) (text_of_lines lines) tail ∙ append_assoc line (10 ∷ []) (text_of_lines lines ++ tail))
    ∙ lines_at line (text_of_lines lines ++ tail) (by_byte line h.0) ∙ ap (λ (ls : List (List ℕ)). line ∷ ls) (lines_front lines tail h.1)

pub ended_front : (lines : List (List ℕ)) (tail : List ℕ) → AllByRecursion HasNoLineFeed lines → terminated_lines (text_of_lines lines ++ tail) ≡ lines ++ terminated_lines tail
ended_front [] tail h = refl
ended_front (line ∷ lines) tail h =
    ap terminated_lines (append_assoc (line_with_line_feed line) (text_of_lines lines) tail ∙ append_assoc line (10 ∷ []) (text_of_lines lines ++ tail))
    ∙ ended_at line (text_of_lines lines ++ tail) (by_byte line h.0) ∙ ap (λ (ls : List (List ℕ)). line ∷ ls) (ended_front lines tail h.1)

pub ended_none : (tail : List ℕ) → HasNoLineFeed tail → terminated_lines tail ≡ []
ended_none tail h = ended_by_byte tail (by_byte tail h)

pub lines_last : (tail : List ℕ) → HasNoLineFeed tail → 0 < length tail → lines_of_text tail ≡ tail ∷ []
lines_last [] h some = absurd (omega arith)
lines_last (b ∷ bytes) h some = last_by_byte b bytes (by_byte (b ∷ bytes) h)

pub ended_whole : (lines : List (List ℕ)) (tail : List ℕ) → AllByRecursion HasNoLineFeed lines → HasNoLineFeed tail → terminated_lines (text_of_lines lines ++ tail) ≡ lines
ended_whole lines tail h none = ended_front lines tail h ∙ ap (λ (ls : List (List ℕ)). lines ++ ls) (ended_none tail none) ∙ append-nil lines

-- The lines are those that a line feed ends, and at most one more.
pub record MoreLines (text : List ℕ) : Type 0 where
  pub more : List (List ℕ)
  pub same : lines_of_text text ≡ terminated_lines text ++ more

with_byte_more : (b : ℕ) (all first more : List (List ℕ)) → all ≡ first ++ more → (rest : List (List ℕ)) × (lines_with_added_front_byte b all ≡ terminated_lines_with_front_byte b first ++ rest)
with_byte_more b all [] more e = (lines_with_added_front_byte b all, refl)
with_byte_more b all (l ∷ ls) more e = (more, ap (lines_with_added_front_byte b) e)

more_by_byte : (b : ℕ) (feed : Bool) (all first : List (List ℕ)) (more : List (List ℕ)) → all ≡ first ++ more
    → (rest : List (List ℕ)) × (cond feed ([] ∷ all) (lines_with_added_front_byte b all) ≡ cond feed ([] ∷ first) (terminated_lines_with_front_byte b first) ++ rest)
more_by_byte b true all first more e = (more, ap (λ (ls : List (List ℕ)). [] ∷ ls) e)
more_by_byte b false all first more e = with_byte_more b all first more e

pub more_lines : (text : List ℕ) → MoreLines text
more_lines [] = record { more = []; same = refl }
more_lines (b ∷ text) =
    let later = more_lines text in
    let found = more_by_byte b (is_line_end_byte b) (lines_of_text text) (terminated_lines text) later.more later.same in
    record { more = found.0; same = found.1 }

-- ---- a node's name

-- its row, and two digits of its column
pub name_spelled : (node : NodeId) → (48 + node.number / 18) ∷ two_digits (node.number % 18) ≡ name_of_node node
name_spelled node =
    let small : node.number < 144 = node.in_range in
    let row : decimal_name_of_node node.number / 100 ≡ node.number / 18 = omega arith in
    let tens : decimal_name_of_node node.number / 10 % 10 ≡ node.number % 18 / 10 = omega arith in
    let ones : decimal_name_of_node node.number % 10 ≡ node.number % 18 % 10 = omega arith in
    rw (row, tens, ones) refl

-- ---- an image as it is read, part by part

-- the lines that were read whole, and the part after them, which begins at start
pub record Body (text : List ℕ) (start : ℕ) : Type 0 where
  pub lines : List (List ℕ)
  pub part : List ℕ
  pub before : AllByRecursion IsImageBodyLine lines
  pub no_feed : HasNoLineFeed part
  pub splits : text ≡ text_of_lines lines ++ part
  pub starts : start ≡ length (text_of_lines lines)

nothing : HasNoLineFeed []
nothing = All-nil (λ b. is_line_end_byte b ≡ false)

pub no_end : (text : List ℕ) (start : ℕ) → Body text start → HasNoEndLine text
no_end text start b = record { lines = b.lines; part = b.part; before = b.before; no_feed = b.no_feed; splits = b.splits }

-- more of the line
pub body_more : (text more : List ℕ) (start : ℕ) (piece : List ℕ) → Body text start → HasNoLineFeed piece → more ≡ text ++ piece → Body more start
body_more text more start piece b none e = record {
  lines = b.lines;
  part = b.part ++ piece;
  before = b.before;
  no_feed = All-append (λ y. is_line_end_byte y ≡ false) b.part piece b.no_feed none;
  splits = e ∙ ap (λ (t : List ℕ). t ++ piece) b.splits ∙ append_assoc (text_of_lines b.lines) b.part piece;
  starts = b.starts;
}

drop_seam : (xs ys : List ℕ) → drop (length xs) (xs ++ ys) ≡ ys
drop_seam [] ys = refl
drop_seam (x ∷ xs) ys = drop_seam xs ys

-- a line that ended
pub line_splits : (text more : List ℕ) (start : ℕ) (piece : List ℕ) (b : Body text start) → more ≡ text ++ line_with_line_feed piece → more ≡ text_of_lines b.lines ++ line_with_line_feed (b.part ++ piece)
line_splits text more start piece b e =
    e ∙ ap (λ (t : List ℕ). t ++ line_with_line_feed piece) b.splits ∙ append_assoc (text_of_lines b.lines) b.part (line_with_line_feed piece)
    ∙ ap (λ (t : List ℕ). text_of_lines b.lines ++ t) (sym (append_assoc b.part piece (10 ∷ [])))

-- the text from a line's start on is the line with its line feed
pub line_range : (text more : List ℕ) (start : ℕ) (piece : List ℕ) (b : Body text start) → more ≡ text ++ line_with_line_feed piece
    → take (length more - start) (drop start more) ≡ line_with_line_feed (b.part ++ piece)
line_range text more start piece b e =
    take_all (length more - start) (drop start more) (omega (arith, length-drop start more))
    ∙ ap (λ (n : ℕ). drop n more) b.starts
    ∙ ap (drop (length (text_of_lines b.lines))) (line_splits text more start piece b e)
    ∙ drop_seam (text_of_lines b.lines) (line_with_line_feed (b.part ++ piece))

push_body : (lines : List (List ℕ)) (line : List ℕ) → AllByRecursion IsImageBodyLine lines → IsImageBodyLine line → AllByRecursion IsImageBodyLine (lines ++ line ∷ [])
push_body [] line h p = (p, tt)
push_body (l ∷ ls) line h p = (h.0, push_body ls line h.1 p)

pub body_line : (text more : List ℕ) (start : ℕ) (piece : List ℕ) (b : Body text start) → HasNoLineFeed piece → more ≡ text ++ line_with_line_feed piece
    → (line_with_line_feed (b.part ++ piece) ≡ line_with_line_feed image_end_line → ⊥) → Body more (length more)
body_line text more start piece b none e other =
    let line : List ℕ = b.part ++ piece in
    let whole : more ≡ text_of_lines (b.lines ++ line ∷ []) =
    line_splits text more start piece b e
    ∙ ap (λ (t : List ℕ). text_of_lines b.lines ++ t) (sym (append-nil (line_with_line_feed line))) ∙ sym (flat_map-append line_with_line_feed b.lines (line ∷ [])) in
    record {
      lines = b.lines ++ line ∷ [];
      part = [];
      before = push_body b.lines line b.before
          (record { no_feed = All-append (λ y. is_line_end_byte y ≡ false) b.part piece b.no_feed none; not_end = λ q. other (ap line_with_line_feed q) });
      no_feed = nothing;
      splits = whole ∙ sym (append-nil (text_of_lines (b.lines ++ line ∷ [])));
      starts = ap length whole;
    }

-- a piece was taken from what was read
pub over_piece : (whole text more piece old new rest : List ℕ) → whole ≡ text ++ (old ++ rest) → old ≡ piece ++ new → more ≡ text ++ piece → whole ≡ more ++ (new ++ rest)
over_piece whole text more piece old new rest e f g =
    e ∙ ap (λ (t : List ℕ). text ++ (t ++ rest)) f ∙ ap (λ (t : List ℕ). text ++ t) (append_assoc piece new rest)
    ∙ sym (append_assoc text piece (new ++ rest)) ∙ ap (λ (t : List ℕ). t ++ (new ++ rest)) (sym g)

-- a line feed after a part
pub ended_piece : (old part new : List ℕ) → old ≡ part ++ 10 ∷ new → old ≡ line_with_line_feed part ++ new
ended_piece old part new e = e ∙ sym (append_assoc part (10 ∷ []) new)

-- all that was read
pub over_all : (whole text more old rest : List ℕ) → whole ≡ text ++ (old ++ rest) → more ≡ text ++ old → whole ≡ more ++ rest
over_all whole text more old rest e g = over_piece whole text more old old [] rest e (sym (append-nil old)) g
