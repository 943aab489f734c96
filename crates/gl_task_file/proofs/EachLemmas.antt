-- Lists that are read item by item.
use Rattle.std.proofs.Common.{◌≡◌, ◌∙◌, ℕ, ◌+◌, arith, sym, ap, subst, None, Some, zero, length, List, [], ◌∷◌, ◌++◌, map}
use Rattle.std.proofs.lemmas.List.{append_assoc, append-nil}
use Rattle.toml.specs.View.{view}
use Rattle.toml.specs.declared.value.Value.{Value}
use Rattle.toml.specs.Data.{Data}
use Rattle.gl_task_file.specs.Keys.{Test, each_item, first_failed}
use Rattle.gl_task_file.specs.Meaning.{Each}
use Rattle.gl_task_file.specs.declared.error.TaskError.{TaskError}
use Rattle.gl_task_file.proofs.TestLemmas.{before_all, behind_all}

-- the items so far are those of the values that were read, and the rest are to come
abbrev pub Gathered : {A : Type 0} → (Data → A → Type 0) → List Data → List Data → List A → Type 0
Gathered {A} Is all rest xs = (more : List A) → Each Is rest more → Each Is all (xs ++ more)

pub gathered_next : {A : Type 0} (Is : Data → A → Type 0) (all rest : List Data) (value : Data) (xs : List A) (x : A) → Gathered Is all (value ∷ rest) xs → Is value x
    → Gathered Is all rest (xs ++ x ∷ [])
gathered_next {A} Is all rest value xs x so_far is = λ more e. subst (λ (l : List A). Each Is all l) (sym (append_assoc xs (x ∷ []) more)) (so_far (x ∷ more) (is, e))

pub gathered_all : {A : Type 0} (Is : Data → A → Type 0) (all : List Data) (xs : List A) → Gathered Is all [] xs → Each Is all xs
gathered_all {A} Is all xs so_far = subst (λ (l : List A). Each Is all l) (append-nil xs) (so_far [] tt)

-- where no value is left, all are read
pub gathered_end : {A : Type 0} (Is : Data → A → Type 0) (all : List Data) (rest : List Value) (xs : List A) → Gathered Is all (map view rest) xs → length rest ≡ zero → Each Is all xs
gathered_end Is all [] xs so_far none = gathered_all Is all xs so_far
gathered_end Is all (value ∷ rest) xs so_far none = absurd (omega arith)

-- one item more was read
pub next_gathered : {A : Type 0} (Is : Data → A → Type 0) (all : List Data) (rest : List Value) (value : Value) (others : List Value) (xs : List A) (x : A) (more : List A) → rest ≡ value ∷ others
    → Gathered Is all (map view rest) xs → Is (view value) x → more ≡ xs ++ x ∷ [] → Gathered Is all (map view others) more
next_gathered {A} Is all rest value others xs x more cut so_far is pushed =
    let before : Gathered Is all (view value ∷ map view others) xs = subst (λ (l : List Value). Gathered Is all (map view l) xs) cut so_far in
    subst (λ (l : List A). Gathered Is all (map view others) l) (sym pushed) (gathered_next Is all (map view others) (view value) xs x before is)

-- one item more passes
pub next_tests : (tests : ℕ → Data → List Test) (n : ℕ) (all : Test) (rest : List Value) (value : Value) (others : List Value) → rest ≡ value ∷ others
    → all ≡ first_failed (each_item tests n (map view rest)) → first_failed (tests n (view value)) ≡ None → all ≡ first_failed (each_item tests (n + 1) (map view others))
next_tests tests n all rest value others cut so_far passes =
    so_far ∙ ap (λ (l : List Value). first_failed (each_item tests n (map view l))) cut ∙ behind_all (tests n (view value)) (each_item tests (n + 1) (map view others)) passes

-- an item that fails
pub failed_here : (tests : ℕ → Data → List Test) (n : ℕ) (all : Test) (rest : List Value) (value : Value) (others : List Value) (e : TaskError) → rest ≡ value ∷ others
    → all ≡ first_failed (each_item tests n (map view rest)) → first_failed (tests n (view value)) ≡ Some e → all ≡ Some e
failed_here tests n all rest value others e cut so_far fails =
    so_far ∙ ap (λ (l : List Value). first_failed (each_item tests n (map view l))) cut ∙ before_all (tests n (view value)) (each_item tests (n + 1) (map view others)) e fails
