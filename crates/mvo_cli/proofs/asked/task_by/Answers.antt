use Rattle.std.proofs.Common.{Bor, map, rules, ap, ap₂, refl, subst, codes, true, List, Option, Some, None, Result, Ok, Err, [], ◌∷◌, ◌≡◌, ◌∙◌, option_map}
use Rattle.std.specs.Prelude.{IfOk, IsSome, IfSome, IsSomeAnd}
use Rattle.clap.specs.Words.{App, FailsBy, HasMatchesOf, Row, Text, fault_of, is_simple, is_simple_and_free, subcommand_of, subcommand_rows_of, takes}
use Rattle.clap.specs.declared.ArgMatches.{ArgMatches}
use Rattle.clap.specs.declared.error.Error.{Error}
use Rattle.clap.specs.declared.error.ErrorKind.TheVariants as kind
use Rattle.clap.proofs.OnLiterals.{clap_on_literals}
use Rattle.mvo_cli.specs.Asked.{commands, AsksFor}
use Rattle.mvo_cli.specs.Tasks.{IsTask}
use Rattle.mvo_cli.specs.declared.task.Task.{Task}
use Rattle.mvo_cli.proofs.asked.task_by.Goals as goal

option_map_twice : {A B C : Type 0} (g : B → C) (f : A → B) (o : Option A) → option_map g (option_map f o) ≡ option_map (λ x. g (f x)) o
option_map_twice g f None = refl
option_map_twice g f (Some x) = refl

is_simple_app : is_simple commands ≡ true
unfolding clap_on_literals
is_simple_app = refl

runs : (name : Text) → takes commands (name ∷ codes "run" ∷ []) ≡ true
unfolding clap_on_literals
runs name = refl

is_free : is_simple_and_free commands ≡ true
unfolding clap_on_literals
is_free = refl

version_fault : (name : Text) → fault_of commands (name ∷ codes "--version" ∷ []) ≡ kind.DisplayVersion ∷ []
unfolding clap_on_literals
version_fault name = refl

-- a parse of the word for the version fails as that
fails_by_version : {T : Type 0} (a : App) (words : List Text) (name : Text) (r : Result T Error) → a ≡ commands → words ≡ name ∷ codes "--version" ∷ [] →
    (is_simple_and_free a ≡ true → FailsBy (fault_of a words) r) → FailsBy (kind.DisplayVersion ∷ []) r
fails_by_version a words name r is e fails =
    subst (λ ks. FailsBy ks r) (ap₂ fault_of is e ∙ version_fault name) (fails (ap is_simple_and_free is ∙ is_free))

first : Text × List Row → Text
first p = p.0

names_run : (name : Text) → option_map (λ p. p.0) (subcommand_of commands (name ∷ codes "run" ∷ [])) ≡ Some (codes "run")
unfolding clap_on_literals
names_run name = refl

-- the subcommand that the matches have is the one that the words are read as
same_rows : (m : ArgMatches) (a : App) (words : List Text) → a ≡ commands → HasMatchesOf a words m → subcommand_rows_of m ≡ subcommand_of commands words
same_rows m a words e h = (h (ap is_simple e ∙ is_simple_app)).1 ∙ ap (λ x. subcommand_of x words) e

asks : (words : List Text) (o : Option (Text × List Row)) (r : Option Task) (t : Task) → o ≡ subcommand_of commands words →
    IfSome r (λ t. IsSomeAnd o (λ p. IsTask p.0 p.1 t)) → r ≡ Some t → AsksFor words t
asks words o r t e some is =
    subst (λ o. IsSomeAnd o (λ (p : Text × List Row). IsTask p.0 p.1 t)) e (subst (λ x. IfSome x (λ t. IsSomeAnd o (λ (p : Text × List Row). IsTask p.0 p.1 t))) is some)

not_some : {A E : Type 0} (r : Result (Option A) E) → r ≡ Ok None → IfOk r IsSome → ⊥
not_some (Ok None) e is = cc
not_some (Ok (Some y)) e is = cc
not_some (Err y) e is = cc

-- the command that the words name, where they are a name and run
run_of : (words : List Text) (name : Text) → words ≡ name ∷ codes "run" ∷ [] → option_map (λ p. p.0) (subcommand_of commands words) ≡ Some (codes "run")
run_of words name e = ap (λ ws. option_map (λ (p : Text × List Row). p.0) (subcommand_of commands ws)) e ∙ names_run name

pub returns-in_err-try_get_matches_from_mut-clause-run : goal.returns-in_err-try_get_matches_from_mut-clause-run
returns-in_err-try_get_matches_from_mut-clause-run c = λ is name e.
    let spent = c.in_err-try_get_matches_from_mut.ensures.passes (ap₂ takes is e ∙ runs name) in
    search (rules, spent)

pub returns-in_ok-error-in-Ok-None-clause-run : goal.returns-in_ok-error-in-Ok-None-clause-run
returns-in_ok-error-in-Ok-None-clause-run c = λ is name e.
    let rows = same_rows c.in_ok-try_get_matches_from_mut.field-0 _ _ is c.in_ok-try_get_matches_from_mut.ensures.ok.2 in
    let run = ap (option_map (λ (p : Text × List Row). p.0)) rows ∙ run_of _ name e in
    absurd (not_some c.task_among-task.result (c.in-Ok-None.is ∙ ap (λ (o : Option Task). Ok o) c.in-Ok-None.field-0-is) (c.task_among-task.ensures.run run))

some_kind : kind.DisplayVersion ∷ [] ≡ [] → ⊥
some_kind e = cc

pub returns-in_err-try_get_matches_from_mut-clause-version : goal.returns-in_err-try_get_matches_from_mut-clause-version
returns-in_err-try_get_matches_from_mut-clause-version c = λ is name e.
    let failed = fails_by_version {T = ArgMatches} _ _ name (Err c.in_err-try_get_matches_from_mut.field-0.0) is e c.in_err-try_get_matches_from_mut.ensures.kinds in
    search (rules, failed)

pub returns-in-Ok-Some-clause-version : goal.returns-in-Ok-Some-clause-version
returns-in-Ok-Some-clause-version c = λ is name e.
    fails_by_version _ _ name (Ok c.in_ok-try_get_matches_from_mut.field-0) is e c.in_ok-try_get_matches_from_mut.ensures.kinds

pub returns-in_ok-error-in-Ok-None-clause-version : goal.returns-in_ok-error-in-Ok-None-clause-version
returns-in_ok-error-in-Ok-None-clause-version c = λ is name e.
    absurd (some_kind (fails_by_version _ _ name (Ok c.in_ok-try_get_matches_from_mut.field-0) is e c.in_ok-try_get_matches_from_mut.ensures.kinds))

pub returns-in-Ok-Some-clause-asked : goal.returns-in-Ok-Some-clause-asked
returns-in-Ok-Some-clause-asked c = λ is.
    let words = map (λ (w : Bor Text). w.now) c.args.words.now in
    let rows = same_rows c.in_ok-try_get_matches_from_mut.field-0 _ words is c.in_ok-try_get_matches_from_mut.ensures.ok.2 in
    asks words _ c.in-Ok-Some.field-0 c.in-Ok-Some.task rows c.in-Ok-Some.ensures.task c.in-Ok-Some.field-0-is
