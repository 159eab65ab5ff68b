-- Plain words, heard one by one, and that the numbers that they say are below 2^18.
use Rattle.std.proofs.Common.{◌≡◌, ◌∙◌, ℕ, ◌<◌, inl, inr, Bool, true, false, List, [], ◌∷◌, Option, Some, None, arith, ap, sym, refl, subst, slice_index_or, get_or, ◌+◌, ◌*◌, ◌≤◌, drop, ltb, leb}
use Rattle.std.specs.Prelude.{Result, Ok, Err, IfErr, codes, bytes_eq, if◌then◌else◌, bit_xor, ◌==◌}
use Rattle.std.proofs.lemmas.Bool.{cond-true, cond-false, cases_Bool, ltb-true}
use Rattle.std.proofs.lemmas.Slice.Eq.{bytes_eq-Decides}
use Rattle.ga_parser.specs.declared.number.Number.{Number as NumberIn, Number as WordNumber}
use Rattle.ga_parser.specs.declared.number.Number.TheVariants.{Of, OutOfRange, Nothing as NoNumber}
use Rattle.ga_parser.specs.declared.item.Operand.TheVariants.{Number}
use Rattle.ga_parser.specs.declared.item.AssemblyItem.TheVariants.{Cell}
use Rattle.ga_parser.specs.declared.vocabulary.Directive.{Directive}
use Rattle.ga_parser.specs.declared.vocabulary.Directive.TheVariants.{Address as GoesOn, Register as Gives}
use Rattle.ga_parser.specs.declared.vocabulary.Register.TheVariants.{P, A, B}
use Rattle.ga_parser.specs.declared.item.AssemblyRequest.TheVariants.{PlaceItem, GoToAddress}
use Rattle.ga_parser.specs.declared.draft.Expect.{Expect}
use Rattle.ga_parser.specs.declared.draft.Expect.TheVariants.{Word, Address, Name, Register, Nothing}
use Rattle.ga_parser.specs.Asking.{address_with_carry_bit}
use Rattle.ga_ports.specs.Steps.{◌>>=◌}
use Rattle.ga_ports.specs.Address.{parse_side_set, side_letter_value}
use Rattle.ga_parser.specs.Vocabulary.{find_in_table, number_spelled_by_word, directives_by_name, has_prefix, unsigned_number, number_in_word_range, negative_number_in_range, signed_number, port_set_address, named_port_set, named_port_addresses, named_port_address}
use Rattle.ga_parser.specs.Plain.{PlainRequests, plain_requests_with_pair, plain_requests_with_added, apply_to_number_in_range, some_value_if, is_cell_address, plain_requests_from}
use Rattle.ga_parser.specs.inner.Drafting.{PlainParseState, requests_at_end_of_words, can_give_register_value, expect_after_directive, parse_one_word, hear_all}
use Rattle.std.specs.Option.{option_map_or, option_or}
use Rattle.std.proofs.Math.Nat.{mod-lt}
use Rattle.std.proofs.lemmas.Nat.{xor_lt}

abbrev is_some : {X : Type 0} → Option X → Type 0
is_some (Some _) = Unit {0}
is_some None = ⊥

pub no_some : {X : Type 0} {x : X} → None ≡ Some x → ⊥
no_some e = subst is_some (sym e) tt

abbrev option_or_default : {X : Type 0} → X → Option X → X
option_or_default x (Some y) = y
option_or_default x None = x

-- what holds of an error
pub if_err_weaker : {T E : Type 0} (r : Result T E) (Before After : E → Type 0) → ((e : E) → Before e → After e) → IfErr r Before → IfErr r After
if_err_weaker (Ok x) Before After weaker h = tt
if_err_weaker (Err e) Before After weaker h = weaker e h

-- ---- directives

pub same_text : (text name : List ℕ) → bytes_eq text name ≡ true → text ≡ name
same_text text name same = (bytes_eq-Decides text name).0 same

named : (text name : List ℕ) (d : Directive) → find_in_table directives_by_name name ≡ Some d → bytes_eq text name ≡ true → find_in_table directives_by_name text ≡ Some d
named text name d is same = subst (λ t. find_in_table directives_by_name t ≡ Some d) (sym (same_text text name same)) is

-- ---- numbers

abbrev is_of : NumberIn → Type 0
is_of (Of _) = ⊥
is_of _ = Unit {0}

abbrev number_or_0 : NumberIn → ℕ
number_or_0 (Of n) = n
number_or_0 _ = 0

pub of_same : (n m : ℕ) → Of n ≡ Of m → n ≡ m
of_same n m e = ap number_or_0 e

no_number : {n : ℕ} → NoNumber ≡ Of n → ⊥
no_number e = subst is_of e tt

-- a word with an apostrophe in front says no number
label_no_number : (name : List ℕ) → number_spelled_by_word (39 ∷ name) ≡ NoNumber
unfolding parse_side_set
label_no_number [] = refl
label_no_number (a ∷ []) = refl
label_no_number (a ∷ b ∷ []) = refl
label_no_number (a ∷ b ∷ c ∷ []) = refl
label_no_number (a ∷ b ∷ c ∷ d ∷ name) = refl

pub no_label : (text : List ℕ) (n : ℕ) → get_or text 0 0 ≡ 39 → number_spelled_by_word text ≡ Of n → ⊥
no_label [] n first is = absurd (omega arith)
no_label (b ∷ name) n first is = no_number (sym (label_no_number name) ∙ (ap (λ (c : ℕ). number_spelled_by_word (c ∷ name)) (sym first) ∙ is))

-- what is done on `Ok`, of one number
pub same_number : (n m : ℕ) (number : NumberIn) → Of n ≡ number → number ≡ Of m → n ≡ m
same_number n m number is asked = of_same n m (is ∙ asked)

-- an address of a cell, without bit 9, is itself
pub not_carried : (n : ℕ) (is_set : Bool) → is_set ≡ false → n < 512 → address_with_carry_bit is_set n ≡ n
not_carried n is_set e small = ap (λ (b : Bool). address_with_carry_bit b n) e ∙ omega arith

-- where a number asks for something, there is one
pub record IsNumbered {X : Type 0} (number : NumberIn) (asks : ℕ → Option X) (x : X) : Type 0 where
  pub n : ℕ
  pub is : number ≡ Of n
  pub gives : asks n ≡ Some x

pub some_same : {X : Type 0} (x y : X) → Some x ≡ Some y → x ≡ y
some_same x y e = ap (λ o. option_or_default x o) e

pub numbered : {X : Type 0} (number : NumberIn) (asks : ℕ → Option X) (x : X) → apply_to_number_in_range number asks ≡ Some x → IsNumbered number asks x
numbered (Of n) asks x e = record { n = n; is = refl; gives = e }
numbered OutOfRange asks x e = absurd (no_some e)
numbered NoNumber asks x e = absurd (no_some e)

-- what a test allows
pub allowed : {X : Type 0} (b : Bool) (x y : X) → some_value_if b x ≡ Some y → (b ≡ true) × (x ≡ y)
allowed true x y e = (refl, some_same x y e)
allowed false x y e = absurd (no_some e)

-- ---- plain words are heard as they are read in pairs

-- a number, where the rest is heard as it is read
number_pair : (number : NumberIn) (f : ℕ → Option PlainRequests) (g : ℕ → Option PlainParseState) (read : PlainRequests → Option PlainRequests) (k : PlainParseState → Option PlainRequests) (all : PlainRequests) → ((n : ℕ) → (f n >>= read) ≡ Some all → (g n >>= k) ≡ Some all) → (apply_to_number_in_range number f >>= read) ≡ Some all → (apply_to_number_in_range number g >>= k) ≡ Some all
number_pair (Of n) f g read k all goes is = goes n is
number_pair OutOfRange f g read k all goes is = absurd (no_some is)
number_pair NoNumber f g read k all goes is = absurd (no_some is)

-- the same where a test allows it
allowed_pair : (b : Bool) (plain : PlainRequests) (heard : PlainParseState) (read : PlainRequests → Option PlainRequests) (k : PlainParseState → Option PlainRequests) (all : PlainRequests) → (read plain ≡ Some all → k heard ≡ Some all) → (some_value_if b plain >>= read) ≡ Some all → (some_value_if b heard >>= k) ≡ Some all
allowed_pair true plain heard read k all goes is = goes is
allowed_pair false plain heard read k all goes is = absurd (no_some is)

module _ (plain all : PlainRequests) (first second : List ℕ) (words : List (List ℕ)) (again : (more : PlainRequests) → plain_requests_from more words ≡ Some all → hear_all (record { expect = Word; plain = more }) words ≡ Some all) where
  comma_pair : bytes_eq second (codes ",") ≡ true → (plain_requests_with_pair plain first second >>= (λ more. plain_requests_from more words)) ≡ Some all → hear_all (record { expect = Word; plain = plain }) (first ∷ second ∷ words) ≡ Some all
  unfolding hear_all
  comma_pair comma is =
      ap (λ (o : Option PlainParseState). o >>= (λ now. hear_all now (second ∷ words))) (cond-true (bytes_eq second (codes ",")) _ _ comma)
      ∙ number_pair (number_spelled_by_word first) (λ n. Some (plain_requests_with_added plain (PlaceItem (Cell (Number n))))) (λ n. Some (record { expect = Nothing; plain = plain_requests_with_added plain (PlaceItem (Cell (Number n))) }))
      (λ more. plain_requests_from more words) (λ now. hear_all now (second ∷ words)) all (λ n. again (plain_requests_with_added plain (PlaceItem (Cell (Number n)))))
      (ap (λ (o : Option PlainRequests). o >>= (λ more. plain_requests_from more words)) (sym (cond-true (bytes_eq second (codes ",")) _ _ comma)) ∙ is)

  directive_pair : (d : Directive) (e : Expect) (may : ℕ → Bool) (f : ℕ → PlainRequests) → bytes_eq second (codes ",") ≡ false → find_in_table directives_by_name first ≡ Some d → expect_after_directive d ≡ Some e → ((n : ℕ) → parse_one_word (record { expect = e; plain = plain }) second (slice_index_or words 0 []) ≡ apply_to_number_in_range (number_spelled_by_word second) (λ n. some_value_if (may n) (record { expect = Word; plain = f n }))) → (apply_to_number_in_range (number_spelled_by_word second) (λ n. some_value_if (may n) (f n)) >>= (λ more. plain_requests_from more words)) ≡ Some all → hear_all (record { expect = Word; plain = plain }) (first ∷ second ∷ words) ≡ Some all
  unfolding hear_all
  directive_pair d e may f no_comma named next hears is =
      ap (λ (o : Option PlainParseState). o >>= (λ now. hear_all now (second ∷ words)))
      (cond-false (bytes_eq second (codes ",")) _ _ no_comma
      ∙ (ap (λ (o : Option Directive). (o >>= expect_after_directive) >>= (λ x. Some (record { expect = x; plain = plain }))) named
      ∙ ap (λ (o : Option Expect). o >>= (λ x. Some (record { expect = x; plain = plain }))) next))
      ∙ (ap (λ (o : Option PlainParseState). o >>= (λ now. hear_all now words)) (hears 0)
      ∙ number_pair (number_spelled_by_word second) (λ n. some_value_if (may n) (f n)) (λ n. some_value_if (may n) (record { expect = Word; plain = f n })) (λ more. plain_requests_from more words) (λ now. hear_all now words) all
      (λ n. allowed_pair (may n) (f n) (record { expect = Word; plain = f n }) (λ more. plain_requests_from more words) (λ now. hear_all now words) all (again (f n))) is)

  pub pair : (plain_requests_with_pair plain first second >>= (λ more. plain_requests_from more words)) ≡ Some all → hear_all (record { expect = Word; plain = plain }) (first ∷ second ∷ words) ≡ Some all
  pair is = elim (cases_Bool (bytes_eq second (codes ","))) [
    | inl comma ↦ comma_pair comma is
    | inr other ↦ elim (cases_Bool (bytes_eq first (codes "org"))) [
      | inl org ↦ directive_pair GoesOn Address (λ n. is_cell_address n) (λ n. plain_requests_with_added plain (GoToAddress n)) other (named first (codes "org") GoesOn refl org) refl (λ n. refl) (rw (other, org) at is)
      | inr no_org ↦ elim (cases_Bool (bytes_eq first (codes "/p"))) [
        | inl p ↦ directive_pair (Gives P) (Register P) (λ n. can_give_register_value plain P n) (λ n. record plain { p = Some (Number n) }) other (named first (codes "/p") (Gives P) refl p) refl (λ n. refl) (rw (other, no_org, p) at is)
        | inr no_p ↦ elim (cases_Bool (bytes_eq first (codes "/a"))) [
          | inl a ↦ directive_pair (Gives A) (Register A) (λ n. can_give_register_value plain A n) (λ n. record plain { a = Some (Number n) }) other (named first (codes "/a") (Gives A) refl a) refl (λ n. refl) (rw (other, no_org, no_p, a) at is)
          | inr no_a ↦ elim (cases_Bool (bytes_eq first (codes "/b"))) [
            | inl b ↦ directive_pair (Gives B) (Register B) (λ n. can_give_register_value plain B n) (λ n. record plain { b = Some (Number n) }) other (named first (codes "/b") (Gives B) refl b) refl (λ n. refl) (rw (other, no_org, no_p, no_a, b) at is)
            | inr no_b ↦ absurd (no_some (rw (other, no_org, no_p, no_a, no_b) at is))
          ]
        ]
      ]
    ]
  ]

-- plain words are heard one by one as they are read
pub hear_plain : (words : List (List ℕ)) (plain all : PlainRequests) → plain_requests_from plain words ≡ Some all → hear_all (record { expect = Word; plain = plain }) words ≡ Some all
unfolding hear_all plain_requests_from
hear_plain [] plain all is = is
hear_plain (word ∷ []) plain all is = absurd (no_some is)
hear_plain (first ∷ second ∷ words) plain all is = pair plain all first second words (λ more. hear_plain words more all) is

-- after the last
ended : (e : Expect) (plain all : PlainRequests) → requests_at_end_of_words (record { expect = e; plain = plain }) ≡ Some all → plain ≡ all
ended Word plain all is = some_same plain all is
ended Address plain all is = absurd (no_some is)
ended Name plain all is = absurd (no_some is)
ended (Register register) plain all is = absurd (no_some is)
ended Nothing plain all is = some_same plain all is

pub end_heard : (heard : PlainParseState) (all : PlainRequests) → requests_at_end_of_words heard ≡ Some all → heard.plain ≡ all
end_heard heard all is = ended heard.expect heard.plain all is

-- ---- the numbers that words say are below 2^18

abbrev IsSmall : WordNumber → Type 0
IsSmall (Of n) = n < 262144
IsSmall _ = Unit {0}

-- an address of ports
abbrev IsSmallAddress : Option ℕ → Type 0
IsSmallAddress (Some n) = n < 512
IsSmallAddress None = Unit {0}

size_small : (size : ℕ) → IsSmall (number_in_word_range size)
size_small size = elim (cases_Bool (ltb size 262144)) [
  | inl small ↦ rw small (ltb-true size 262144 small)
  | inr large ↦ rw large tt
]

below_small : (size : ℕ) → IsSmall (negative_number_in_range size)
below_small size = elim (cases_Bool (leb size 131072)) [
  | inl small ↦ rw small (mod-lt _ (omega arith))
  | inr large ↦ rw large tt
]

or_nothing : (word : ℕ → WordNumber) (size : Option ℕ) → ((n : ℕ) → IsSmall (word n)) → IsSmall (option_map_or word size NoNumber)
or_nothing word (Some n) small = small n
or_nothing word None small = tt

numeral_small : (text : List ℕ) → IsSmall (signed_number text)
numeral_small text = elim (cases_Bool (has_prefix text (codes "-"))) [
  | inl negative ↦ rw negative (or_nothing negative_number_in_range (unsigned_number (drop 1 text)) below_small)
  | inr positive ↦ rw positive (or_nothing number_in_word_range (unsigned_number text) size_small)
]

-- ---- ports

side_small : (letter bit byte : ℕ) (k : ℕ → Option ℕ) → ((n : ℕ) → n ≤ bit → IsSmallAddress (k n >>= port_set_address)) → IsSmallAddress ((side_letter_value letter bit byte >>= k) >>= port_set_address)
side_small letter bit byte k small = elim (cases_Bool (byte == letter)) [
  | inl is ↦ rw is (small bit (omega arith))
  | inr other ↦ elim (cases_Bool (byte == 45)) [
    | inl none ↦ rw (other, none) (small 0 (omega arith))
    | inr neither ↦ rw (other, neither) tt
  ]
]

abbrev pick : Bool → ℕ → Option ℕ
pick is_none n = if is_none then None else Some (bit_xor 0x155 n)

sides_small : (n : ℕ) (is_none : Bool) → n < 512 → IsSmallAddress (pick is_none n)
sides_small n true small = tt
sides_small n false small = xor_lt 9 0x155 n (omega arith) small

set_small : (text : List ℕ) → IsSmallAddress (named_port_set text)
unfolding parse_side_set
set_small [] = tt
set_small (a ∷ []) = tt
set_small (a ∷ b ∷ []) = tt
set_small (a ∷ b ∷ c ∷ []) = tt
set_small (right ∷ down ∷ left ∷ up ∷ []) =
    side_small 114 8 right _ (λ r r_small. side_small 100 4 down _ (λ d d_small. side_small 108 2 left _ (λ l l_small. side_small 117 1 up _ (λ u u_small.
    sides_small (16 * (r + d + l + u)) (r + d + l + u == 0) (omega arith)))))
set_small (a ∷ b ∷ c ∷ d ∷ e ∷ text) = tt

abbrev AreSmall : List (List ℕ × ℕ) → Type 0
AreSmall [] = Unit {0}
AreSmall (row ∷ rest) = (row.1 < 512) × AreSmall rest

name_small : (table : List (List ℕ × ℕ)) (text : List ℕ) → AreSmall table → IsSmallAddress (find_in_table table text)
name_small [] text small = tt
name_small (row ∷ rest) text small = elim (cases_Bool (bytes_eq text row.0)) [
  | inl is ↦ rw is small.0
  | inr other ↦ rw other (name_small rest text small.1)
]

either_small : (first second : Option ℕ) → IsSmallAddress first → IsSmallAddress second → IsSmallAddress (option_or first second)
either_small (Some n) second one other = one
either_small None second one other = other

port_small : (text : List ℕ) → IsSmallAddress (named_port_address text)
port_small text = either_small (find_in_table named_port_addresses text) (named_port_set text) (name_small named_port_addresses text (omega arith, (omega arith, (omega arith, (omega arith, (omega arith, tt)))))) (set_small text)

-- ---- a port or a numeral

word_small : (port : Option ℕ) (number : WordNumber) → IsSmallAddress port → IsSmall number → IsSmall (option_map_or Of port number)
word_small (Some n) number port other = omega arith
word_small None number port other = other

number_small : (text : List ℕ) (n : ℕ) → number_spelled_by_word text ≡ Of n → n < 262144
number_small text n is = subst IsSmall is (word_small (named_port_address text) (signed_number text) (port_small text) (numeral_small text))

asked_so : {X : Type 0} (number : WordNumber) (asks : ℕ → Option X) (more : X) (Holds : Type 0) → ((n : ℕ) → number ≡ Of n → asks n ≡ Some more → Holds) → apply_to_number_in_range number asks ≡ Some more → Holds
asked_so (Of n) asks more Holds each is = each n refl is
asked_so OutOfRange asks more Holds each is = absurd (no_some is)
asked_so NoNumber asks more Holds each is = absurd (no_some is)

-- what a number asks for holds where it does for each number that a word can say
pub number_asks : {X : Type 0} (word : List ℕ) (asks : ℕ → Option X) (more : X) (Holds : Type 0) → ((n : ℕ) → n < 262144 → asks n ≡ Some more → Holds) → apply_to_number_in_range (number_spelled_by_word word) asks ≡ Some more → Holds
number_asks word asks more Holds each is = asked_so (number_spelled_by_word word) asks more Holds (λ n number. each n (number_small word n number)) is
