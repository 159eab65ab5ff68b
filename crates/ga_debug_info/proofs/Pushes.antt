-- Texts that are pushed one after another.
use Rattle.std.proofs.Common.{◌≡◌, ◌∙◌, ℕ, List, ◌++◌, ap, refl, append_assoc}
use Rattle.std.specs.Prelude.{Result, Ok, Err, OnOk}

pub on_ok : {T E : Type 0} (r : Result T E) (P Q : Type 0) → (P → Q) → OnOk r P → OnOk r Q
on_ok (Ok x) P Q f held = f held
on_ok (Err e) P Q f held = held

regroup_four : (o a b c d : List ℕ) → (((o ++ a) ++ b) ++ c) ++ d ≡ o ++ (((a ++ b) ++ c) ++ d)
regroup_four o a b c d = simp append_assoc refl

pub four : (o0 o1 o2 o3 o4 a b c d : List ℕ) → o1 ≡ o0 ++ a → o2 ≡ o1 ++ b → o3 ≡ o2 ++ c → o4 ≡ o3 ++ d → o4 ≡ o0 ++ (((a ++ b) ++ c) ++ d)
four o0 o1 o2 o3 o4 a b c d e1 e2 e3 e4 =
    e4 ∙ (ap (λ (l : List ℕ). l ++ d) (e3 ∙ ap (λ (l : List ℕ). l ++ c) (e2 ∙ ap (λ (l : List ℕ). l ++ b) e1)) ∙ regroup_four o0 a b c d)

pub five : (o0 o1 o2 o3 o4 o5 a b c d e : List ℕ) → o1 ≡ o0 ++ a → o2 ≡ o1 ++ b → o3 ≡ o2 ++ c → o4 ≡ o3 ++ d → o5 ≡ o4 ++ e → o5 ≡ o0 ++ ((((a ++ b) ++ c) ++ d) ++ e)
five o0 o1 o2 o3 o4 o5 a b c d e e1 e2 e3 e4 e5 =
    e5 ∙ (ap (λ (l : List ℕ). l ++ e) (four o0 o1 o2 o3 o4 a b c d e1 e2 e3 e4) ∙ append_assoc o0 (((a ++ b) ++ c) ++ d) e)
