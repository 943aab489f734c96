-- What fails first among the tests of parts of a file.
use Rattle.std.proofs.Common.{◌≡◌, ◌∙◌, sym, ap, rules, arith, refl, ℕ, max, Bool, true, false, List, [], ◌∷◌, ◌++◌, Option, None, Some}
use Rattle.std.specs.Prelude.{if◌then◌else◌}
use Rattle.toml.specs.Data.{Data, Members}
use Rattle.gl_task_file.specs.Keys.{Test, first_failed, at_most, needed, optional, right_value, some_item}
use Rattle.gl_task.specs.declared.key.Key.{Key}
use Rattle.gl_task_file.specs.declared.error.TaskError.{TaskError}

-- behind a test that passes the others decide
pub behind : (test : Test) (tests : List Test) (r : Test) → test ≡ None → first_failed tests ≡ r → first_failed (test ∷ tests) ≡ r
behind None tests r passes rest = rest
behind (Some wrong) tests r passes rest = absurd (some≢none passes)
  where
    some≢none : Some wrong ≡ None → ⊥
    some≢none e = search rules

-- a test that fails before the others fails first
pub before : (test : Test) (tests : List Test) (e : TaskError) → test ≡ Some e → first_failed (test ∷ tests) ≡ Some e
before None tests e fails = search rules
before (Some wrong) tests e fails = fails

-- behind tests that pass the others decide
pub behind_all : (first tests : List Test) → first_failed first ≡ None → first_failed (first ++ tests) ≡ first_failed tests
behind_all [] tests passes = refl
behind_all (None ∷ first) tests passes = behind_all first tests passes
behind_all (Some wrong ∷ first) tests passes = search rules

-- what fails among the first tests fails first
pub before_all : (first tests : List Test) (e : TaskError) → first_failed first ≡ Some e → first_failed (first ++ tests) ≡ Some e
before_all [] tests e fails = search rules
before_all (None ∷ first) tests e fails = before_all first tests e fails
before_all (Some wrong ∷ first) tests e fails = fails

-- the test of a key, where the key and the table are written otherwise
pub right_as : {A : Type 0} (k key : Key) (meaning : Option A) (r : Test) → k ≡ key → right_value k meaning ≡ r → right_value key meaning ≡ r
right_as k key meaning r same is = sym (λ i. right_value (same i) meaning) ∙ is

pub needed_as : {A : Type 0} (k key : Key) (name : List ℕ) (wanted : Data → Option A) (t table : Members) (r : Test) → k ≡ key → t ≡ table → needed k name wanted t ≡ r → needed key name wanted table ≡ r
needed_as k key name wanted t table r same there is = sym (λ i. needed (same i) name wanted (there i)) ∙ is

pub optional_as : {A : Type 0} (k key : Key) (name : List ℕ) (wanted : Data → Option A) (t table : Members) (r : Test) → k ≡ key → t ≡ table → optional k name wanted t ≡ r → optional key name wanted table ≡ r
optional_as k key name wanted t table r same there is = sym (λ i. optional (same i) name wanted (there i)) ∙ is

pub needed_with : {A B : Type 0} (k key : Key) (name : List ℕ) (wanted : B → Data → Option A) (a b : B) (t table : Members) (r : Test) → k ≡ key → a ≡ b → t ≡ table → needed k name (wanted a) t ≡ r
    → needed key name (wanted b) table ≡ r
needed_with k key name wanted a b t table r same by there is = sym (λ i. needed (same i) name (wanted (by i)) (there i)) ∙ is

pub some_as : (k key : Key) (xs ys : List Data) (r : Test) → k ≡ key → xs ≡ ys → some_item k xs ≡ r → some_item key ys ≡ r
some_as k key xs ys r same there is = sym (λ i. some_item (same i) (there i)) ∙ is

pub most_as : (k key : Key) (most : ℕ) (xs ys : List Data) (r : Test) → k ≡ key → xs ≡ ys → at_most k most xs ≡ r → at_most key most ys ≡ r
most_as k key most xs ys r same there is = sym (λ i. at_most (same i) most (there i)) ∙ is

pub max_turned : (m n : ℕ) → max m n ≡ max n m
max_turned m n = omega arith

-- tests that are made only where a key is left out
pub left_away : (there : Bool) (tests : List Test) (r : Test) → there ≡ false → first_failed tests ≡ r → first_failed (if there then [] else tests) ≡ r
left_away there tests r none is = ap (λ (b : Bool). first_failed (if b then [] else tests)) none ∙ is

pub not_made : (there : Bool) (tests : List Test) → there ≡ true → first_failed (if there then [] else tests) ≡ None
not_made there tests is = ap (λ (b : Bool). first_failed (if b then [] else tests)) is
