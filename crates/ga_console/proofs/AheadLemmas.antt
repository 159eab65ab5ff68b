-- A command in front of a text.
use Rattle.std.proofs.Common.{◌≡◌, ◌<◌, ℕ, List, [], ◌∷◌, ◌++◌, length, take, Some, get_or, refl, sym, ap, ◌∙◌, arith, ◌≢◌, ◌+◌, ◌*◌, ◌/◌, ◌%◌, ◌≤◌, false, drop, suc, drop-cons, length-take, length-drop, take-append-drop, append_assoc, inl, inr, eq-zero-or-pos, ◌-◌, decimal, subst}
use Rattle.ga_grid.specs.declared.node_id.NodeId.{NodeId}
use Rattle.ga_text.specs.Digits.{name_of_node, hex_byte_value}
use Rattle.ga_text.proofs.Taking.{byte_address, not_feed}
use Rattle.ga_console.specs.Commands.{SpellsCommand}
use Rattle.ga_console.specs.declared.command.DebuggerCommand.TheVariants.{Node, Memory, Step, Rewind, Count, Quit}
use Rattle.std.specs.Prelude.{codes}
use Rattle.std.proofs.lemmas.List.{take_all}
use Rattle.std.proofs.lemmas.List.Elements.{All-from_recursion, All-append}
use Rattle.ga_grid.specs.Grid.{decimal_name_of_node}
use Rattle.ga_text.specs.Lines.{HasNoLineFeed, is_line_end_byte}
use Rattle.ga_console.specs.Session.{quit_line}
use Rattle.ga_console.specs.inner.Run.{IsCommandAhead, IsLineAhead, IsNumberAhead}
use Rattle.ga_console.specs.declared.command.DebuggerCommand.{DebuggerCommand}
use Rattle.std.proofs.Math.Seq.{drop-append-add}

-- ---- A line that shows a node or a word of its memory

-- the eight of some bytes
eight : (line : List ℕ) → length line ≡ 8
    → line ≡ get_or line 0 0 ∷ get_or line 1 0 ∷ get_or line 2 0 ∷ get_or line 3 0 ∷ get_or line 4 0 ∷ get_or line 5 0 ∷ get_or line 6 0 ∷ get_or line 7 0 ∷ []
eight [] h = absurd (omega arith)
eight (a ∷ []) h = absurd (omega arith)
eight (a ∷ b ∷ []) h = absurd (omega arith)
eight (a ∷ b ∷ c ∷ []) h = absurd (omega arith)
eight (a ∷ b ∷ c ∷ d ∷ []) h = absurd (omega arith)
eight (a ∷ b ∷ c ∷ d ∷ e ∷ []) h = absurd (omega arith)
eight (a ∷ b ∷ c ∷ d ∷ e ∷ f ∷ []) h = absurd (omega arith)
eight (a ∷ b ∷ c ∷ d ∷ e ∷ f ∷ g ∷ []) h = absurd (omega arith)
eight (a ∷ b ∷ c ∷ d ∷ e ∷ f ∷ g ∷ i ∷ []) h = refl
eight (a ∷ b ∷ c ∷ d ∷ e ∷ f ∷ g ∷ i ∷ j ∷ line) h = absurd (omega arith)

-- the ten of some bytes
ten : (line : List ℕ) → length line ≡ 10
    → line ≡ get_or line 0 0 ∷ get_or line 1 0 ∷ get_or line 2 0 ∷ get_or line 3 0 ∷ get_or line 4 0 ∷ get_or line 5 0 ∷ get_or line 6 0 ∷ get_or line 7 0 ∷ get_or line 8 0 ∷ get_or line 9 0 ∷ []
ten [] h = absurd (omega arith)
ten (a ∷ []) h = absurd (omega arith)
ten (a ∷ b ∷ []) h = absurd (omega arith)
ten (a ∷ b ∷ c ∷ []) h = absurd (omega arith)
ten (a ∷ b ∷ c ∷ d ∷ []) h = absurd (omega arith)
ten (a ∷ b ∷ c ∷ d ∷ e ∷ []) h = absurd (omega arith)
ten (a ∷ b ∷ c ∷ d ∷ e ∷ f ∷ []) h = absurd (omega arith)
ten (a ∷ b ∷ c ∷ d ∷ e ∷ f ∷ g ∷ []) h = absurd (omega arith)
ten (a ∷ b ∷ c ∷ d ∷ e ∷ f ∷ g ∷ i ∷ []) h = absurd (omega arith)
ten (a ∷ b ∷ c ∷ d ∷ e ∷ f ∷ g ∷ i ∷ j ∷ []) h = absurd (omega arith)
ten (a ∷ b ∷ c ∷ d ∷ e ∷ f ∷ g ∷ i ∷ j ∷ k ∷ []) h = refl
ten (a ∷ b ∷ c ∷ d ∷ e ∷ f ∷ g ∷ i ∷ j ∷ k ∷ l ∷ line) h = absurd (omega arith)

-- `node` and a name
pub node_line : (line : List ℕ) (node : NodeId) → length line ≡ 8
    → (get_or line 0 0 ≡ 110) → (get_or line 1 0 ≡ 111) → (get_or line 2 0 ≡ 100) → (get_or line 3 0 ≡ 101) → (get_or line 4 0 ≡ 32)
    → (name_of_node node ++ 10 ∷ []) ≡ (get_or line 5 0 ∷ get_or line 6 0 ∷ get_or line 7 0 ∷ 10 ∷ []) → SpellsCommand (Node node) line
node_line line node long b0 b1 b2 b3 b4 name =
    let named : name_of_node node ≡ get_or line 5 0 ∷ get_or line 6 0 ∷ get_or line 7 0 ∷ [] = ap (take 3) name in
    eight line long ∙ rw (b0, b1, b2, b3, b4) (ap (λ (t : List ℕ). 110 ∷ 111 ∷ 100 ∷ 101 ∷ 32 ∷ t) (sym named))

-- `mem`, a name and two digits
pub memory_line : (line : List ℕ) (node : NodeId) (address : ℕ) → length line ≡ 10
    → (get_or line 0 0 ≡ 109) → (get_or line 1 0 ≡ 101) → (get_or line 2 0 ≡ 109) → (get_or line 3 0 ≡ 32) → (get_or line 7 0 ≡ 32)
    → (name_of_node node ++ 10 ∷ []) ≡ (get_or line 4 0 ∷ get_or line 5 0 ∷ get_or line 6 0 ∷ 10 ∷ [])
    → hex_byte_value (get_or line 8 0 ∷ get_or line 9 0 ∷ []) ≡ Some address → SpellsCommand (Memory node address) line
memory_line line node address long b0 b1 b2 b3 b7 name e =
    let named : name_of_node node ≡ get_or line 4 0 ∷ get_or line 5 0 ∷ get_or line 6 0 ∷ [] = ap (take 3) name in
    let word : List ℕ = get_or line 8 0 ∷ get_or line 9 0 ∷ [] in
    (word, byte_address word address e, ten line long ∙ rw (b0, b1, b2, b3, b7) (ap (λ (t : List ℕ). 109 ∷ 101 ∷ 109 ∷ 32 ∷ (t ++ 32 ∷ word)) (sym named)))

-- bytes that are the same number are the same
pub same_bytes : (a b c d e f g h : ℕ) → a < 256 → b < 256 → c < 256 → d < 256 → e < 256 → f < 256 → g < 256 → h < 256
    → a + 256 * b + 65536 * c + 16777216 * d ≡ e + 256 * f + 65536 * g + 16777216 * h → (a ≡ e) × (b ≡ f) × (c ≡ g) × (d ≡ h)
same_bytes a b c d e f g h ka kb kc kd ke kf kg kh sums =
    let one : a ≡ e = omega arith in
    let two : b ≡ f = omega arith in
    let three : c ≡ g = omega arith in (one, two, three, omega arith)

-- a line at the beginning of a text, and what follows its line feed
line_splits : (text : List ℕ) (count : ℕ) → IsLineAhead text count → text ≡ take count text ++ 10 ∷ drop (count + 1) text
line_splits text count h =
    let next : suc count ≡ count + 1 = omega arith in
    sym (take-append-drop count text)
    ∙ ap (λ (t : List ℕ). take count text ++ t)
    (drop-cons text count 0 h.below ∙ ap (λ (b : ℕ). b ∷ drop (suc count) text) h.feed ∙ ap (λ (n : ℕ). 10 ∷ drop n text) next)

-- the first nine of some bytes
nine : (text : List ℕ) → 9 ≤ length text
    → text ≡ get_or text 0 0 ∷ get_or text 1 0 ∷ get_or text 2 0 ∷ get_or text 3 0 ∷ get_or text 4 0 ∷ get_or text 5 0 ∷ get_or text 6 0 ∷ get_or text 7 0 ∷ get_or text 8 0 ∷ drop 9 text
nine [] h = absurd (omega arith)
nine (a ∷ []) h = absurd (omega arith)
nine (a ∷ b ∷ []) h = absurd (omega arith)
nine (a ∷ b ∷ c ∷ []) h = absurd (omega arith)
nine (a ∷ b ∷ c ∷ d ∷ []) h = absurd (omega arith)
nine (a ∷ b ∷ c ∷ d ∷ e ∷ []) h = absurd (omega arith)
nine (a ∷ b ∷ c ∷ d ∷ e ∷ f ∷ []) h = absurd (omega arith)
nine (a ∷ b ∷ c ∷ d ∷ e ∷ f ∷ g ∷ []) h = absurd (omega arith)
nine (a ∷ b ∷ c ∷ d ∷ e ∷ f ∷ g ∷ i ∷ []) h = absurd (omega arith)
nine (a ∷ b ∷ c ∷ d ∷ e ∷ f ∷ g ∷ i ∷ j ∷ text) h = refl

step_line : NodeId → List ℕ
step_line node = 115 ∷ 116 ∷ 101 ∷ 112 ∷ 32 ∷ name_of_node node

-- no byte of it is a line feed
step_feeds : (node : NodeId) → HasNoLineFeed (step_line node)
unfolding step_line
step_feeds node = All-from_recursion (λ b. is_line_end_byte b ≡ false) (step_line node)
    (refl, (refl, (refl, (refl, (refl, (not_feed _ (omega arith), (not_feed _ (omega arith), (not_feed _ (omega arith), tt))))))))

pub step_front : (text : List ℕ) (node : NodeId) → 9 ≤ length text
    → (get_or text 0 0 ≡ 115) → (get_or text 1 0 ≡ 116) → (get_or text 2 0 ≡ 101) → (get_or text 3 0 ≡ 112) → (get_or text 4 0 ≡ 32)
    → (name_of_node node ++ 10 ∷ []) ≡ (get_or text 5 0 ∷ get_or text 6 0 ∷ get_or text 7 0 ∷ get_or text 8 0 ∷ []) → IsCommandAhead text (Step node) 8
unfolding step_line
step_front text node long b0 b1 b2 b3 b4 name = record {
  line = step_line node;
  more = drop 9 text;
  splits = nine text long ∙ rw (b0, b1, b2, b3, b4) (ap (λ (t : List ℕ). 115 ∷ 116 ∷ 101 ∷ 112 ∷ 32 ∷ (t ++ drop 9 text)) (sym name));
  no_feed = step_feeds node;
  counts = refl;
  short = omega arith;
  spelled = refl;
  not_quit = λ q. absurd (let bad = q in cc);
}

-- the first eleven of some bytes
eleven : (text : List ℕ) → 11 ≤ length text
    → text ≡ get_or text 0 0 ∷ get_or text 1 0 ∷ get_or text 2 0 ∷ get_or text 3 0 ∷ get_or text 4 0 ∷ get_or text 5 0 ∷ get_or text 6 0 ∷ get_or text 7 0 ∷ get_or text 8 0 ∷ get_or text 9 0 ∷ get_or text 10 0 ∷ drop 11 text
eleven [] h = absurd (omega arith)
eleven (a ∷ []) h = absurd (omega arith)
eleven (a ∷ b ∷ []) h = absurd (omega arith)
eleven (a ∷ b ∷ c ∷ []) h = absurd (omega arith)
eleven (a ∷ b ∷ c ∷ d ∷ []) h = absurd (omega arith)
eleven (a ∷ b ∷ c ∷ d ∷ e ∷ []) h = absurd (omega arith)
eleven (a ∷ b ∷ c ∷ d ∷ e ∷ f ∷ []) h = absurd (omega arith)
eleven (a ∷ b ∷ c ∷ d ∷ e ∷ f ∷ g ∷ []) h = absurd (omega arith)
eleven (a ∷ b ∷ c ∷ d ∷ e ∷ f ∷ g ∷ i ∷ []) h = absurd (omega arith)
eleven (a ∷ b ∷ c ∷ d ∷ e ∷ f ∷ g ∷ i ∷ j ∷ []) h = absurd (omega arith)
eleven (a ∷ b ∷ c ∷ d ∷ e ∷ f ∷ g ∷ i ∷ j ∷ k ∷ []) h = absurd (omega arith)
eleven (a ∷ b ∷ c ∷ d ∷ e ∷ f ∷ g ∷ i ∷ j ∷ k ∷ l ∷ text) h = refl

-- the first six of some bytes
six : (text : List ℕ) → 6 ≤ length text
    → take 6 text ≡ get_or text 0 0 ∷ get_or text 1 0 ∷ get_or text 2 0 ∷ get_or text 3 0 ∷ get_or text 4 0 ∷ get_or text 5 0 ∷ []
six [] h = absurd (omega arith)
six (a ∷ []) h = absurd (omega arith)
six (a ∷ b ∷ []) h = absurd (omega arith)
six (a ∷ b ∷ c ∷ []) h = absurd (omega arith)
six (a ∷ b ∷ c ∷ d ∷ []) h = absurd (omega arith)
six (a ∷ b ∷ c ∷ d ∷ e ∷ []) h = absurd (omega arith)
six (a ∷ b ∷ c ∷ d ∷ e ∷ f ∷ text) h = refl

-- they are these, where the second to the fifth are these in one number
pub six_are : (text : List ℕ) (b0 b1 b2 b3 b4 b5 : ℕ) → 6 ≤ length text → b1 < 256 → b2 < 256 → b3 < 256 → b4 < 256
    → get_or text 1 0 < 256 → get_or text 2 0 < 256 → get_or text 3 0 < 256 → get_or text 4 0 < 256 → get_or text 0 0 ≡ b0 → get_or text 5 0 ≡ b5
    → get_or text 1 0 + 256 * get_or text 2 0 + 65536 * get_or text 3 0 + 16777216 * get_or text 4 0 ≡ b1 + 256 * b2 + 65536 * b3 + 16777216 * b4
    → take 6 text ≡ b0 ∷ b1 ∷ b2 ∷ b3 ∷ b4 ∷ b5 ∷ []
six_are text b0 b1 b2 b3 b4 b5 long k1 k2 k3 k4 l1 l2 l3 l4 first last word =
    let same = same_bytes (get_or text 1 0) (get_or text 2 0) (get_or text 3 0) (get_or text 4 0) b1 b2 b3 b4 l1 l2 l3 l4 k1 k2 k3 k4 word in
    six text long ∙ rw (first, same.0, same.1, same.2, same.3, last) refl

-- `count` and a line feed
pub count_front : (text : List ℕ) → take 6 text ≡ codes "count\n" → IsCommandAhead text Count 5
count_front text front = record {
  line = codes "count";
  more = drop 6 text;
  splits = sym (take-append-drop 6 text) ∙ ap (λ (t : List ℕ). t ++ drop 6 text) front;
  no_feed = All-from_recursion (λ b. is_line_end_byte b ≡ false) (codes "count") (refl, (refl, (refl, (refl, (refl, tt)))));
  counts = refl;
  short = omega arith;
  spelled = refl;
  not_quit = λ q. absurd (let bad = q in cc);
}

rewind_head : NodeId → List ℕ
rewind_head node = 114 ∷ 101 ∷ 119 ∷ 105 ∷ 110 ∷ 100 ∷ 32 ∷ (name_of_node node ++ 32 ∷ [])

head_feeds : (node : NodeId) → HasNoLineFeed (rewind_head node)
unfolding rewind_head
head_feeds node = All-from_recursion (λ b. is_line_end_byte b ≡ false) (rewind_head node)
    (refl, (refl, (refl, (refl, (refl, (refl, (refl, (not_feed _ (omega arith), (not_feed _ (omega arith), (not_feed _ (omega arith), (refl, tt)))))))))))

-- a number after the head of a rewind
pub rewind_front : (text : List ℕ) (node : NodeId) (k digits : ℕ) → 11 ≤ length text → take 6 text ≡ codes "rewind" → (get_or text 6 0 ≡ 32) → (get_or text 10 0 ≡ 32)
    → (name_of_node node ++ 10 ∷ []) ≡ (get_or text 7 0 ∷ get_or text 8 0 ∷ get_or text 9 0 ∷ 10 ∷ [])
    → IsNumberAhead (drop 11 text) k digits → IsCommandAhead text (Rewind node k) (11 + digits)
unfolding rewind_head
rewind_front text node k digits long front b6 b10 name h =
    let bytes = sym (six text (omega arith)) ∙ front in
    let b0 : get_or text 0 0 ≡ 114 = ap (λ (t : List ℕ). get_or t 0 0) bytes in
    let b1 : get_or text 1 0 ≡ 101 = ap (λ (t : List ℕ). get_or t 1 0) bytes in
    let b2 : get_or text 2 0 ≡ 119 = ap (λ (t : List ℕ). get_or t 2 0) bytes in
    let b3 : get_or text 3 0 ≡ 105 = ap (λ (t : List ℕ). get_or t 3 0) bytes in
    let b4 : get_or text 4 0 ≡ 110 = ap (λ (t : List ℕ). get_or t 4 0) bytes in
    let b5 : get_or text 5 0 ≡ 100 = ap (λ (t : List ℕ). get_or t 5 0) bytes in
    let named : name_of_node node ≡ get_or text 7 0 ∷ get_or text 8 0 ∷ get_or text 9 0 ∷ [] = ap (take 3) name in
    let rest : drop 11 text ≡ decimal k ++ 10 ∷ drop (digits + 1) (drop 11 text) =
    line_splits (drop 11 text) digits h.line ∙ ap (λ (t : List ℕ). t ++ 10 ∷ drop (digits + 1) (drop 11 text)) h.spelled in
    let size : length (decimal k) ≡ digits = ap length (sym h.spelled) ∙ (omega (arith, length-take digits (drop 11 text), h.line.below)) in
    record {
      line = rewind_head node ++ decimal k;
      more = drop (digits + 1) (drop 11 text);
      splits = eleven text long ∙ rw (b0, b1, b2, b3, b4, b5, b6, b10)
          (ap (λ (t : List ℕ). 114 ∷ 101 ∷ 119 ∷ 105 ∷ 110 ∷ 100 ∷ 32 ∷ (t ++ 32 ∷ drop 11 text)) (sym named)
          ∙ ap (λ (t : List ℕ). 114 ∷ 101 ∷ 119 ∷ 105 ∷ 110 ∷ 100 ∷ 32 ∷ (name_of_node node ++ 32 ∷ t)) rest);
      no_feed = All-append (λ b. is_line_end_byte b ≡ false) (rewind_head node) (decimal k) (head_feeds node) (subst HasNoLineFeed h.spelled h.line.no_feed);
      counts = omega (arith, size);
      short = omega (arith, h.few);
      spelled = (h.fits, refl);
      not_quit = λ q. absurd (let bad = q in cc);
    }

-- four zeros are no name and space
pub guess_is_node : (guess : ℕ) (four : List ℕ) (word : ℕ) → (144 ≤ guess → four ≡ 0 ∷ 0 ∷ 0 ∷ 0 ∷ [])
    → get_or four 0 0 + 256 * get_or four 1 0 + 65536 * get_or four 2 0 + 16777216 * get_or four 3 0 ≡ word + 369098752 → guess < 144
guess_is_node guess four word none sums = elim (eq-zero-or-pos (144 - guess)) [
  | inl z ↦ let bad = rw (none (omega arith)) at sums in absurd (omega (arith, bad))
  | inr g ↦ omega arith
]

-- a name and a space are the same number as these bytes and what a space has more than a line feed
pub name_same : (node : NodeId) (four : List ℕ) (row tens ones feed : ℕ) → four ≡ name_of_node node ++ 32 ∷ [] → row < 256 → tens < 256 → ones < 256 → feed < 256
    → get_or four 0 0 + 256 * get_or four 1 0 + 65536 * get_or four 2 0 + 16777216 * get_or four 3 0 ≡ row + 256 * tens + 65536 * ones + 16777216 * feed + 369098752
    → (name_of_node node ++ 10 ∷ []) ≡ (row ∷ tens ∷ ones ∷ feed ∷ [])
name_same node four row tens ones feed e kr kt ko kf sums =
    let small : node.number < 144 = node.in_range in
    let n = decimal_name_of_node node.number in
    let whole : 48 + n / 100 + 256 * (48 + n / 10 % 10) + 65536 * (48 + n % 10) + 16777216 * 32 ≡ row + 256 * tens + 65536 * ones + 16777216 * feed + 369098752 = rw e at sums in
    let same = same_bytes (48 + n / 100) (48 + n / 10 % 10) (48 + n % 10) 10 row tens ones feed (omega arith) (omega arith) (omega arith) (omega arith) kr kt ko kf (omega arith) in
    rw (← same.0, ← same.1, ← same.2, ← same.3) refl

-- where it spells a command
pub line_front : (text : List ℕ) (asked : DebuggerCommand) (count : ℕ) → IsLineAhead text count
    → SpellsCommand asked (take count text) → ((other : DebuggerCommand) → SpellsCommand other (take count text) → other ≡ asked) → asked ≢ Quit → IsCommandAhead text asked count
line_front text asked count h spelled only not_quit = record {
  line = take count text;
  more = drop (count + 1) text;
  splits = line_splits text count h;
  no_feed = h.no_feed;
  counts = omega (arith, length-take count text, h.below);
  short = h.short;
  spelled = spelled;
  not_quit = λ q. not_quit (sym (only Quit q));
}

-- what is there and what may still come
pub line_whole : (text rest : List ℕ) (count : ℕ) → IsLineAhead text count → text ++ rest ≡ take count text ++ 10 ∷ (drop (count + 1) text ++ rest)
line_whole text rest count h =
    ap (λ (t : List ℕ). t ++ rest) (line_splits text count h) ∙ append_assoc (take count text) (10 ∷ drop (count + 1) text) rest

-- the same where the line was taken
pub line_taken : (text now rest : List ℕ) (count : ℕ) → IsLineAhead text count → now ≡ drop (count + 1) text → text ++ rest ≡ take count text ++ 10 ∷ (now ++ rest)
line_taken text now rest count h e = line_whole text rest count h ∙ ap (λ (t : List ℕ). take count text ++ 10 ∷ (t ++ rest)) (sym e)

-- it is short enough to be kept whole
pub line_kept : (text : List ℕ) (count : ℕ) → IsLineAhead text count → take count text ≡ take 201 (take count text)
line_kept text count h = sym (take_all 201 (take count text) (omega (arith, length-take count text, h.short)))

-- and what is left stays within the bound
pub line_within : (text : List ℕ) (count taken limit : ℕ) → IsLineAhead text count → taken + length text ≤ limit
    → taken + length (take count text) + 1 + length (drop (count + 1) text) ≤ limit
line_within text count taken limit h within = omega (arith, within, h.below, length-take count text, length-drop (count + 1) text)

behind : (bytes line more now : List ℕ) (count : ℕ) → bytes ≡ line ++ 10 ∷ more → length line ≡ count → now ≡ drop (count + 1) bytes → now ≡ more
behind bytes line more now count splits counts e =
    e ∙ ap (drop (count + 1)) splits ∙ ap (λ (n : ℕ). drop (n + 1) (line ++ 10 ∷ more)) (sym counts) ∙ drop-append-add line (10 ∷ more) 1

-- what is there and what may still come, where the line ahead is taken
pub ahead_whole : (bytes now rest : List ℕ) (asked : DebuggerCommand) (count : ℕ) (h : IsCommandAhead bytes asked count) → now ≡ drop (count + 1) bytes
    → bytes ++ rest ≡ h.line ++ 10 ∷ (now ++ rest)
ahead_whole bytes now rest asked count h e =
    ap (λ (t : List ℕ). t ++ rest) h.splits ∙ append_assoc h.line (10 ∷ h.more) rest
    ∙ ap (λ (t : List ℕ). h.line ++ 10 ∷ (t ++ rest)) (sym (behind bytes h.line h.more now count h.splits h.counts e))

-- the whole line, where it is quit or empty
pub quit_part : (line part : List ℕ) → line ≡ take 201 part → line ≡ quit_line → part ≡ quit_line
quit_part line part kept quit =
    sym (take_all 201 part (omega (arith, length-take 201 part, ap length kept, ap length quit))) ∙ sym kept ∙ quit
