-- The groups of tests, joined, are the test of a change.
use Rattle.std.proofs.Common.{◌≡◌, Bool, true, false, ◌&&◌, Option, Some, None, option_and_then, option_map, refl, sym, ap, ◌∙◌}
use Rattle.std.specs.Option.{is_some}
use Rattle.serde_json.specs.Data.{Data}
use Rattle.kq_model.specs.ChangeText.{filter_in, flags_in, is_change}
use Rattle.kq_model.specs.Members.{required}
use Rattle.kq_trace.specs.Parts.{has_extras, has_no_others, has_required, names_filter, names_flags}

regroup : (a b c d e : Bool) → (a && (b && c && d && e)) ≡ (a && b && c && d && e)
regroup true b c d e = refl
regroup false b c d e = refl

parts : (d : Data) → (has_required d && (has_extras d && has_no_others d)) ≡ is_change d
unfolding is_change has_required has_extras has_no_others
parts d = regroup (has_required d) _ _ _ _

pub all_parts : (d : Data) (r : Bool) → has_required d ≡ true → r ≡ (has_extras d && has_no_others d) → r ≡ is_change d
all_parts d r holds rest = rest ∙ ap (λ b. b && (has_extras d && has_no_others d)) (sym holds) ∙ parts d

pub no_parts : (d : Data) → has_required d ≡ false → false ≡ is_change d
no_parts d fails = ap (λ b. b && (has_extras d && has_no_others d)) (sym fails) ∙ parts d

pub filter_there : (o : Option Data) → is_some (option_and_then filter_in o) ≡ required names_filter o
unfolding required
filter_there None = refl
filter_there (Some d) = refl

pub flags_there : (o : Option Data) → is_some (option_and_then flags_in o) ≡ required names_flags o
unfolding required
flags_there None = refl
flags_there (Some d) = refl

pub is_some-option_map : {A B : Type 0} (f : A → B) (o : Option A) → is_some (option_map f o) ≡ is_some o
is_some-option_map f None = refl
is_some-option_map f (Some x) = refl
