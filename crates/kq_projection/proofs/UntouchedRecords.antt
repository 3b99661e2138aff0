-- What a record does not touch is after it as it was: what a number names, and what is seen of a target.
use Rattle.std.proofs.Common.{◌≡◌, ◌∙◌, ◌==◌, ℕ, ◌&&◌, ◌||◌, Bool, true, false, eqb, List, [], ◌∷◌, ◌++◌, map, Option, None, Some, refl, sym, ap, ap₂, subst}
use Rattle.std.specs.Prelude.{All}
use Rattle.std.specs.List.{flat_map, list_any}
use Rattle.std.proofs.lemmas.Bool.{and_parts, both_ways, eqb-true, false_from_ne_true, true≢false}
use Rattle.std.proofs.lemmas.List.Elements.{All-map, All-weaker}
use Rattle.kq_model.proofs.ListFilters.{All-both}
use Rattle.std.proofs.lemmas.List.Folds.{list_any-append}
use Rattle.kq_model.specs.declared.event.Event.{Event}
use Rattle.kq_model.specs.declared.event.Event.TheVariants as event
use Rattle.kq_model.specs.declared.object.Target.{Target}
use Rattle.kq_model.specs.declared.object.Target.TheVariants as target
use Rattle.kq_model.specs.Close.{Pair, has_pair}
use Rattle.kq_model.specs.Descriptors.{Descriptor, IsRising, named_among, without_closed}
use Rattle.kq_model.specs.Objects.{counted, all_done, view_of}
use Rattle.kq_model.specs.Targets.{target_eq}
use Rattle.kq_model.specs.TouchedNumbers.{born_numbers, pair_of}
use Rattle.kq_model.specs.TouchedTargets.{starts, ends, is_touched}
use Rattle.kq_model.specs.World.{World, Plan, carried_out, named_by, view_in, views_of}
use Rattle.kq_model.proofs.KnoteLaws.{by_test}
use Rattle.kq_model.proofs.UntouchedNumbers.{untouched-number}
use Rattle.kq_model.proofs.UntouchedTargets.{untouched-target}
use Rattle.kq_projection.specs.RecordSubjects.{first_number, first_opened, opened_numbers, second_number, second_opened, spoken_file, spoken_numbers, spoken_process, spoken_targets}
use Rattle.kq_projection.specs.Touched.{all_named, has_number, has_target, left_of, open_numbers, targets_left, targets_named, tells_file, told_targets, touched_numbers, touched_targets}
use Rattle.kq_projection.specs.Within.{IsWithin, PassesAll}
use Rattle.kq_projection.proofs.RisingTables.{IsNamedIn, is_same, named-rising, opened-put, stand-there}
use Rattle.kq_projection.proofs.TouchedKeys.{all-have, in_left, in_right, named-have, none-passes, open-has, pairs-have, process-spoken, table-has, to_pair}

-- what it opens it speaks of
opened-spoken : (e : Event) (pid number : ℕ) → has_number pid number (opened_numbers e) ≡ true → has_number pid number (spoken_numbers e) ≡ true
unfolding first_number second_number first_opened second_opened
opened-spoken (event.Proc p) pid number there = there
opened-spoken (event.Fork p child) pid number there = there
opened-spoken (event.Exit p status) pid number there = there
opened-spoken (event.Kqueue p fd) pid number there = there
opened-spoken (event.Dup p fd to) pid number there = in_right (λ (x : ℕ × ℕ). (x.0 == pid) && (x.1 == number)) ((p, fd) ∷ []) ((p, to) ∷ []) there
opened-spoken (event.Close p fd) pid number there = absurd (true≢false (sym there))
opened-spoken (event.Socket p fd rcv snd) pid number there = there
opened-spoken (event.Listen p fd backlog) pid number there = absurd (true≢false (sym there))
opened-spoken (event.Arrive p fd) pid number there = absurd (true≢false (sym there))
opened-spoken (event.Accept p fd to rcv snd) pid number there = in_right (λ (x : ℕ × ℕ). (x.0 == pid) && (x.1 == number)) ((p, fd) ∷ []) ((p, to) ∷ []) there
opened-spoken (event.Connect p fd) pid number there = absurd (true≢false (sym there))
opened-spoken (event.Rx p fd n) pid number there = absurd (true≢false (sym there))
opened-spoken (event.Tx p fd n) pid number there = absurd (true≢false (sym there))
opened-spoken (event.Shut p fd side error) pid number there = absurd (true≢false (sym there))
opened-spoken (event.Lowat p fd side n) pid number there = absurd (true≢false (sym there))
opened-spoken (event.Pipe p rfd wfd cap) pid number there = there
opened-spoken (event.Read p fd n) pid number there = absurd (true≢false (sym there))
opened-spoken (event.Write p fd n) pid number there = absurd (true≢false (sym there))
opened-spoken (event.Exec p) pid number there = there
opened-spoken (event.Sigset p sig ignore) pid number there = there
opened-spoken (event.Sig p sig) pid number there = there
opened-spoken (event.File file size) pid number there = there
opened-spoken (event.Open p fd file mode) pid number there = there
opened-spoken (event.Seek p fd offset) pid number there = absurd (true≢false (sym there))
opened-spoken (event.Truncate file size) pid number there = there
opened-spoken (event.Note file note) pid number there = there
opened-spoken (event.Clock ns) pid number there = there
opened-spoken (event.Kevent p fd changes room) pid number there = there

-- where it speaks of a number it starts no process
none-started : (pid number : ℕ) (e : Event) (w : World counted) → has_number pid number (spoken_numbers e) ≡ true → has_number pid number (open_numbers (spoken_process e) w) ≡ false
unfolding first_number second_number spoken_process
none-started pid number (event.Proc p) w there = absurd (true≢false (sym there))
none-started pid number (event.Fork p child) w there = absurd (true≢false (sym there))
none-started pid number (event.Exit p status) w there = absurd (true≢false (sym there))
none-started pid number (event.Kqueue p fd) w there = refl
none-started pid number (event.Dup p fd to) w there = refl
none-started pid number (event.Close p fd) w there = refl
none-started pid number (event.Socket p fd rcv snd) w there = refl
none-started pid number (event.Listen p fd backlog) w there = refl
none-started pid number (event.Arrive p fd) w there = refl
none-started pid number (event.Accept p fd to rcv snd) w there = refl
none-started pid number (event.Connect p fd) w there = refl
none-started pid number (event.Rx p fd n) w there = refl
none-started pid number (event.Tx p fd n) w there = refl
none-started pid number (event.Shut p fd side error) w there = refl
none-started pid number (event.Lowat p fd side n) w there = refl
none-started pid number (event.Pipe p rfd wfd cap) w there = refl
none-started pid number (event.Read p fd n) w there = refl
none-started pid number (event.Write p fd n) w there = refl
none-started pid number (event.Exec p) w there = refl
none-started pid number (event.Sigset p sig ignore) w there = refl
none-started pid number (event.Sig p sig) w there = refl
none-started pid number (event.File file size) w there = refl
none-started pid number (event.Open p fd file mode) w there = refl
none-started pid number (event.Seek p fd offset) w there = refl
none-started pid number (event.Truncate file size) w there = refl
none-started pid number (event.Note file note) w there = refl
none-started pid number (event.Clock ns) w there = refl
none-started pid number (event.Kevent p fd changes room) w there = refl

module _ (place : ℕ) (e : Event) (w : World counted) (p : Plan) (closed : List (ℕ × ℕ)) (shut : map to_pair closed ≡ p.closed)
    (within : IsWithin (opened_numbers e) (spoken_numbers e) (spoken_targets e) w p) where
  abbrev after : World counted
  after = carried_out place p w

  abbrev numbers : List (ℕ × ℕ)
  numbers = touched_numbers e closed after

  -- ---- numbers

  said-touched : (pid number : ℕ) → has_number pid number (opened_numbers e) ≡ true → has_number pid number numbers ≡ true
  said-touched pid number there =
      in_right (λ (x : ℕ × ℕ). (x.0 == pid) && (x.1 == number)) closed (opened_numbers e ++ open_numbers (spoken_process e) after)
      (in_left (λ (x : ℕ × ℕ). (x.0 == pid) && (x.1 == number)) (opened_numbers e) (open_numbers (spoken_process e) after) there)

  closed-there : (pid number : ℕ) → has_pair pid number p.closed ≡ true → has_number pid number closed ≡ true
  closed-there pid number there = sym (pairs-have pid number closed) ∙ ap (has_pair pid number) shut ∙ there

  closed-touched : (pid number : ℕ) → has_pair pid number p.closed ≡ true → has_number pid number numbers ≡ true
  closed-touched pid number there =
      in_left (λ (x : ℕ × ℕ). (x.0 == pid) && (x.1 == number)) closed (opened_numbers e ++ open_numbers (spoken_process e) after) (closed-there pid number there)

  open-touched : (x : Option ℕ) (pid number : ℕ) → x ≡ Some pid → list_any (λ (d : Descriptor). eqb d.pid pid && eqb d.number number) after.table ≡ true
      → has_number pid number (open_numbers x after) ≡ true
  open-touched x pid number is there =
      ap (λ y. has_number pid number (open_numbers y after)) is ∙ open-has pid number after.table ∙ there

  started-touched : (d : Descriptor) → starts d.pid p.started ≡ true → list_any (is_same d) p.opened ≡ true → has_number d.pid d.number numbers ≡ true
  unfolding carried_out
  started-touched d starting there =
      let spoken = process-spoken (spoken_process e) (spoken_file e) d.pid (within.process d.pid (ap (λ b. b || ends d.pid p.ended) starting)) in
      in_right (λ (x : ℕ × ℕ). (x.0 == d.pid) && (x.1 == d.number)) closed (opened_numbers e ++ open_numbers (spoken_process e) after)
      (in_right (λ (x : ℕ × ℕ). (x.0 == d.pid) && (x.1 == d.number)) (opened_numbers e) (open_numbers (spoken_process e) after)
      (open-touched (spoken_process e) d.pid d.number spoken
      (table-has (is_same d) place p.born p.opened (without_closed p.closed w.table) there)))

  opened-touched : All (λ (d : Descriptor). has_number d.pid d.number numbers ≡ true) p.opened
  opened-touched =
      All-both (λ (d : Descriptor). (has_number d.pid d.number (opened_numbers e) || starts d.pid p.started) ≡ true) (λ (d : Descriptor). list_any (is_same d) p.opened ≡ true)
      (λ (d : Descriptor). has_number d.pid d.number numbers ≡ true) (λ d spoken there.
      by_test (λ b. has_number d.pid d.number (opened_numbers e) ≡ b → (b || starts d.pid p.started) ≡ true → has_number d.pid d.number numbers ≡ true) (has_number d.pid d.number (opened_numbers e))
      (λ _ is _. said-touched d.pid d.number is) (λ _ _ starting. started-touched d starting there) refl spoken)
      p.opened within.opened (stand-there p.opened)

  born-touched : (pid number : ℕ) (x : Option Pair) → p.born ≡ x → has_number pid number numbers ≡ false → has_pair pid number (born_numbers x) ≡ false
  unfolding born_numbers
  born-touched pid number None is absent = refl
  born-touched pid number (Some b) is absent =
      ap (λ t. t || false) (false_from_ne_true (eqb b.pid pid && eqb b.number number) (λ same.
      let both = and_parts (eqb b.pid pid) (eqb b.number number) same in
      both_ways (has_number pid number numbers) absent
      (ap₂ (λ x y. has_number x y numbers) (sym (eqb-true b.pid pid both.0)) (sym (eqb-true b.number number both.1)) ∙ said-touched b.pid b.number (within.born b is))))

  pub untouched_number : (pid number : ℕ) → has_number pid number numbers ≡ false → named_among pid number after.table ≡ named_among pid number w.table
  untouched_number pid number absent =
      let test : Pair → Bool = λ x. eqb x.pid pid && eqb x.number number in
      let no_closed : has_pair pid number p.closed ≡ false =
      false_from_ne_true (has_pair pid number p.closed) (λ there. both_ways (has_number pid number numbers) absent (closed-touched pid number there)) in
      let no_opened : has_pair pid number (map pair_of p.opened) ≡ false =
      none-passes test (λ (x : Pair). has_number x.pid x.number numbers ≡ true) (map pair_of p.opened)
      (All-map (λ (x : Pair). has_number x.pid x.number numbers ≡ true) pair_of p.opened opened-touched)
      (λ x there same. let both = and_parts (eqb x.pid pid) (eqb x.number number) same in
      both_ways (has_number pid number numbers) absent
      (ap₂ (λ a b. has_number a b numbers) (sym (eqb-true x.pid pid both.0)) (sym (eqb-true x.number number both.1)) ∙ there)) in
      untouched-number pid number place p w
      (list_any-append test p.closed (map pair_of p.opened ++ born_numbers p.born)
      ∙ ap₂ (λ a b. a || b) no_closed
      (list_any-append test (map pair_of p.opened) (born_numbers p.born) ∙ ap₂ (λ a b. a || b) no_opened (born-touched pid number p.born refl absent)))

  -- ---- targets

  module _ (rising : IsRising after.table) where
    abbrev targets : List Target
    targets = touched_targets e closed p.hints (views_of w) (views_of after)

    abbrev passes : Target → Bool
    passes t = has_target t targets

    abbrev left_targets : List Target
    left_targets = flat_map (left_of (tells_file p.hints) (views_of w)) closed

    -- what it speaks of, and what its numbers name
    abbrev spoken_on : List Target
    spoken_on = spoken_targets e ++ all_named (views_of after) (spoken_numbers e)

    other-passes : (t : Target) → has_target t (told_targets p.hints ++ spoken_on) ≡ true → passes t ≡ true
    other-passes t there = in_right (λ x. target_eq x t) left_targets (told_targets p.hints ++ spoken_on) there

    told-passes : (t : Target) → has_target t (told_targets p.hints) ≡ true → passes t ≡ true
    told-passes t there = other-passes t (in_left (λ x. target_eq x t) (told_targets p.hints) spoken_on there)

    spoken-passes : (t : Target) → has_target t (spoken_targets e) ≡ true → passes t ≡ true
    spoken-passes t there =
        other-passes t (in_right (λ x. target_eq x t) (told_targets p.hints) spoken_on
        (in_left (λ x. target_eq x t) (spoken_targets e) (all_named (views_of after) (spoken_numbers e)) there))

    -- what a number that it speaks of names after it
    named-passes : (pid number : ℕ) → has_number pid number (spoken_numbers e) ≡ true → All (λ t. passes t ≡ true) (targets_named (named_among pid number after.table))
    unfolding views_of named_by
    named-passes pid number there =
        all-have targets (targets_named (named_among pid number after.table))
        (λ t names. other-passes t (in_right (λ x. target_eq x t) (told_targets p.hints) spoken_on
        (in_right (λ x. target_eq x t) (spoken_targets e) (all_named (views_of after) (spoken_numbers e))
        (named-have (λ (x : ℕ × ℕ). targets_named ((views_of after).descriptor x.0 x.1)) pid number t (spoken_numbers e) there names))))

    closed-passes : (pid number : ℕ) → has_pair pid number p.closed ≡ true → All (λ t. passes t ≡ true) (targets_left (tells_file p.hints) (named_among pid number w.table))
    unfolding views_of named_by
    closed-passes pid number shut_here =
        all-have targets (targets_left (tells_file p.hints) (named_among pid number w.table))
        (λ t names. in_left (λ x. target_eq x t) left_targets (told_targets p.hints ++ spoken_on)
        (named-have (left_of (tells_file p.hints) (views_of w)) pid number t closed (closed-there pid number shut_here) names))

    -- a number that it speaks of, and neither opens nor closes, names after it what it named before it
    same-named : (pid number : ℕ) → has_number pid number (spoken_numbers e) ≡ true → has_number pid number (opened_numbers e) ≡ false
        → has_pair pid number p.closed ≡ false → named_among pid number after.table ≡ named_among pid number w.table
    same-named pid number there old still =
        untouched_number pid number
        (list_any-append (λ (x : ℕ × ℕ). (x.0 == pid) && (x.1 == number)) closed (opened_numbers e ++ open_numbers (spoken_process e) after)
        ∙ ap₂ (λ a b. a || b) (sym (pairs-have pid number closed) ∙ ap (has_pair pid number) shut ∙ still)
        (list_any-append (λ (x : ℕ × ℕ). (x.0 == pid) && (x.1 == number)) (opened_numbers e) (open_numbers (spoken_process e) after)
        ∙ ap₂ (λ a b. a || b) old (none-started pid number e after there)))

    kept-passes : (pid number : ℕ) → has_number pid number (spoken_numbers e) ≡ true → has_number pid number (opened_numbers e) ≡ false
        → has_pair pid number p.closed ≡ false → All (λ t. passes t ≡ true) (targets_named (named_among pid number w.table))
    kept-passes pid number there old still =
        subst (λ n. All (λ t. passes t ≡ true) (targets_named n)) (same-named pid number there old still) (named-passes pid number there)

    opened-named : All (IsNamedIn after.table) p.opened
    unfolding carried_out
    opened-named = opened-put (IsNamedIn after.table) place p.born p.opened (without_closed p.closed w.table) (named-rising after.table rising)

    all-pass : PassesAll (opened_numbers e) (spoken_numbers e) (spoken_targets e) w passes p
    all-pass = record {
      told = all-have targets (told_targets p.hints) told-passes;
      spoken = all-have targets (spoken_targets e) spoken-passes;
      opened = All-weaker (IsNamedIn after.table) (λ (d : Descriptor). has_number d.pid d.number (opened_numbers e) ≡ true → All (λ t. passes t ≡ true) (targets_named (Some d.named)))
          (λ d named there. subst (λ n. All (λ t. passes t ≡ true) (targets_named n)) named (named-passes d.pid d.number (opened-spoken e d.pid d.number there)))
          p.opened opened-named;
      numbered = kept-passes;
      closed = closed-passes;
    }

    process-untouched : (pid : ℕ) → passes (target.Process pid) ≡ false → (starts pid p.started || ends pid p.ended) ≡ false
    process-untouched pid absent =
        false_from_ne_true (starts pid p.started || ends pid p.ended) (λ is.
        both_ways (passes (target.Process pid)) absent (spoken-passes (target.Process pid) (within.process pid is)))

    object-untouched : (t : Target) → passes t ≡ false → view_of t (all_done p.doings w.objects) ≡ view_of t w.objects
    object-untouched t absent = within.doings passes all-pass t absent

    pub untouched_view : (t : Target) → passes t ≡ false → view_in after t ≡ view_in w t
    unfolding view_in carried_out is_touched
    untouched_view (target.Process pid) absent = untouched-target (target.Process pid) place p w (process-untouched pid absent)
    untouched_view (target.Socket n) absent = object-untouched (target.Socket n) absent
    untouched_view (target.Pipe n) absent = object-untouched (target.Pipe n) absent
    untouched_view (target.Open n) absent = object-untouched (target.Open n) absent
    untouched_view (target.File n) absent = object-untouched (target.File n) absent
    untouched_view (target.Signal pid n) absent = object-untouched (target.Signal pid n) absent
    untouched_view target.Own absent = object-untouched target.Own absent
