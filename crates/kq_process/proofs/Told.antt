-- What each change of a shelf of processes does to the processes and to the table that it stands for.
use Rattle.std.proofs.Common.{◌≡◌, ℕ, Bool, true, false, not, List, [], map, Option, Some, None, Result, Ok, Err, OnOk, OnErr, refl, sym, ap, subst, ◌∙◌}
use Rattle.std.specs.Option.{option_map, is_some, is_none}
use Rattle.kq_model.specs.declared.object.Named.{Named}
use Rattle.kq_model.specs.declared.object.View.TheVariants as view
use Rattle.kq_model.specs.Descriptors.{Descriptor, named_among, with_descriptor, with_descriptors, without_closed}
use Rattle.kq_model.specs.DescriptorPlans.{closes}
use Rattle.kq_model.specs.ProcessPlans.{is_kqueue, descriptors_of, pairs_of, inheritable, inherited}
use Rattle.kq_model.specs.Processes as model
use Rattle.kq_model.specs.Processes.{Start, Exit, Disposition, was_used, is_live, process_of, started, ignores_none, ignored_by, disposed, with_process, without_process, with_disposition}
use Rattle.kq_model.specs.World.{process_view}
use Rattle.kq_process.specs.declared.process.Process.{Process}
use Rattle.kq_process.specs.Processes.{ignored_in, process_in, descriptor_in, descriptors_in, table_in}
use Rattle.kq_process.specs.Shelf.{lookup, put, without, AreRising}
use Rattle.kq_process.proofs.Places.{filter-rises, put-rises}
use Rattle.kq_process.proofs.Puts.{lookup-put}
use Rattle.kq_process.proofs.Pids.{process-found, used-found, is_live_at, live-found, started-put, changed-put, kept-put}
use Rattle.kq_process.proofs.Blocks.{descriptors_at, named-found, of-found, kept-block, empty-block}
use Rattle.kq_process.proofs.Closing.{one, closed-one, closed-absent, closed-all}
use Rattle.kq_process.proofs.Opening.{named-anew, opened-copies, copies_of, inherited-copies}

pub is_some_map : {A B : Type 0} (f : A → B) (o : Option A) → is_some (option_map f o) ≡ is_some o
is_some_map f None = refl
is_some_map f (Some x) = refl

pub none_is : {A : Type 0} (o : Option A) (b : Bool) → is_some o ≡ not b → b ≡ is_none o
none_is None true h = refl
none_is None false h = cc
none_is (Some x) true h = cc
none_is (Some x) false h = refl

-- a process by its parts
abbrev process_like : ℕ → Option ℕ → (ℕ → Bool) → model.Process
process_like pid exited ignores = record { pid = pid; exited = exited; ignores = ignores }

-- what holds after an answer and after an error
pub either_way : {T E P Q G : Type 0} (r : Result T E) → (P → G) → (Q → G) → OnOk r P → OnErr r Q → G
either_way (Ok x) f g p q = f p
either_way (Err e) f g p q = g q

module _ (pid : ℕ) (es : List (ℕ × Process)) where
  -- ---- what is found

  pub unused : was_used pid (map process_in es) ≡ false → lookup pid es ≡ None
  unused h = from (lookup pid es) (sym (used-found pid es) ∙ h)
    where
      from : (o : Option Process) → is_some o ≡ false → o ≡ None
      from None h = refl
      from (Some p) h = absurd (cc)

  pub live_there : AreRising es → is_live pid (map process_in es) ≡ true → lookup pid es ≡ None → ⊥
  live_there rising live absent = absurd_from (sym live ∙ live-found pid es rising ∙ ap is_live_at absent)
    where
      absurd_from : true ≡ false → ⊥
      absurd_from h = cc

  pub used_is : (o : Option Process) → o ≡ lookup pid es → is_some o ≡ was_used pid (map process_in es)
  used_is o h = ap is_some h ∙ sym (used-found pid es)

  pub live_is : AreRising es → (o : Option Process) → o ≡ lookup pid es
      → is_live_at o ≡ is_live pid (map process_in es)
  live_is rising o h = ap is_live_at h ∙ sym (live-found pid es rising)

  pub ignored_is : (p : Process) → Some p ≡ lookup pid es
      → ignored_in p.ignored ≡ ignored_by (process_of pid (map process_in es))
  unfolding ignored_by
  ignored_is p h = sym (ap ignored_by
      (process-found pid es ∙ ap (λ o. option_map (λ p. process_in (pid, p)) o) (sym h)))

  pub ignored_none : None ≡ lookup pid es → (signal : ℕ)
      → false ≡ ignored_by (process_of pid (map process_in es)) signal
  unfolding ignored_by
  ignored_none h signal = sym
      (ap (λ o. ignored_by o signal)
      (process-found pid es ∙ ap (λ o. option_map (λ p. process_in (pid, p)) o) (sym h)))

  pub view_is_of : (p : Process) → Some p ≡ lookup pid es
      → Some (view.Process p.exited) ≡ process_view (process_of pid (map process_in es))
  unfolding process_view
  view_is_of p h = sym (ap process_view
      (process-found pid es ∙ ap (λ o. option_map (λ p. process_in (pid, p)) o) (sym h)))

  pub view_none : None ≡ lookup pid es → None ≡ process_view (process_of pid (map process_in es))
  unfolding process_view
  view_none h = sym (ap process_view
      (process-found pid es ∙ ap (λ o. option_map (λ p. process_in (pid, p)) o) (sym h)))

  pub named_is : AreRising es → (p : Process) → Some p ≡ lookup pid es → (n : ℕ)
      → lookup n p.descriptors ≡ named_among pid n (table_in es)
  named_is rising p h n = sym (named-found pid n es rising ∙ ap (λ o. lookup n (descriptors_at o)) (sym h))

  pub named_none : AreRising es → None ≡ lookup pid es → (n : ℕ) → None ≡ named_among pid n (table_in es)
  named_none rising h n = sym (named-found pid n es rising ∙ ap (λ o. lookup n (descriptors_at o)) (sym h))

  -- ---- a process starts

  pub start_processes : (p : Process) (ignores : ℕ → Bool) → p.exited ≡ None → ignored_in p.ignored ≡ ignores
      → was_used pid (map process_in es) ≡ false
      → map process_in (put pid p es)
      ≡ with_process (Some (record { pid = pid; ignores = ignores })) (map process_in es)
  unfolding with_process
  start_processes p ignores live none fresh =
      let s : Start = record { pid = pid; ignores = ignores } in
      let is : process_in (pid, p) ≡ started s =
      ap (λ (x : Option ℕ). process_like pid x (ignored_in p.ignored)) live
      ∙ ap (λ (i : ℕ → Bool). process_like pid None i) none in
      sym (started-put s p is es (unused fresh))

  pub start_table : AreRising es → (p : Process) → p.descriptors ≡ [] → was_used pid (map process_in es) ≡ false
      → table_in (put pid p es) ≡ table_in es
  start_table rising p empty fresh = sym (empty-block pid p empty es rising (unused fresh))

  -- ---- a process exits

  pub exit_processes : AreRising es → (p x : Process) (status : ℕ) → Some p ≡ lookup pid es → x.exited ≡ Some status
      → x.ignored ≡ p.ignored
      → map process_in (put pid x es)
      ≡ without_process (Some (record { pid = pid; status = status })) (map process_in es)
  unfolding without_process
  exit_processes rising p x status found gone same =
      let f : model.Process → model.Process = λ q. record q { exited = Some status } in
      let is : f (process_in (pid, p)) ≡ process_in (pid, x) =
      ap (λ i. process_like pid (Some status) (ignored_in i)) (sym same)
      ∙ ap (λ (o : Option ℕ). process_like pid o (ignored_in x.ignored)) (sym gone) in
      sym (changed-put pid p x f is es rising (sym found))

  pub exit_closed : AreRising es → (p : Process) → Some p ≡ lookup pid es
      → descriptors_in pid p.descriptors ≡ descriptors_of pid (table_in es)
  exit_closed rising p found = sym
      (of-found pid es rising ∙ ap (λ o. descriptors_in pid (descriptors_at o)) (sym found))

  pub exit_table : AreRising es → (p x : Process) → Some p ≡ lookup pid es → x.descriptors ≡ []
      → table_in (put pid x es) ≡ without_closed (pairs_of (descriptors_of pid (table_in es))) (table_in es)
  exit_table rising p x found empty =
      sym (ap (λ ds. without_closed (pairs_of ds) (table_in es)) (sym (exit_closed rising p found))
      ∙ closed-all pid p x empty es rising (sym found))

  -- ---- a signal is ignored, or no longer

  pub dispose_processes : AreRising es → (p x : Process) (signal : ℕ) (ignore : Bool) → Some p ≡ lookup pid es
      → x.exited ≡ p.exited → ignored_in x.ignored ≡ disposed signal ignore (ignored_in p.ignored)
      → map process_in (put pid x es)
      ≡ with_disposition (Some (record { pid = pid; signal = signal; ignore = ignore })) (map process_in es)
  unfolding with_disposition
  dispose_processes rising p x signal ignore found same changed =
      let f : model.Process → model.Process = λ q. record q { ignores = disposed signal ignore q.ignores } in
      let is : f (process_in (pid, p)) ≡ process_in (pid, x) =
      ap (λ (i : ℕ → Bool). process_like pid p.exited i) (sym changed)
      ∙ ap (λ (o : Option ℕ). process_like pid o (ignored_in x.ignored)) (sym same) in
      sym (changed-put pid p x f is es rising (sym found))

  -- ---- what stays

  pub same_processes : AreRising es → (p x : Process) → Some p ≡ lookup pid es → x.exited ≡ p.exited
      → x.ignored ≡ p.ignored → map process_in (put pid x es) ≡ map process_in es
  same_processes rising p x found exited ignored =
      let is : process_in (pid, x) ≡ process_in (pid, p) =
      ap (λ (o : Option ℕ). process_like pid o (ignored_in x.ignored)) exited
      ∙ ap (λ i. process_like pid p.exited (ignored_in i)) ignored in
      kept-put pid p x is es rising (sym found)

  pub same_table : AreRising es → (p x : Process) → Some p ≡ lookup pid es → x.descriptors ≡ p.descriptors
      → table_in (put pid x es) ≡ table_in es
  same_table rising p x found same = sym (kept-block pid p x same es rising (sym found))

  -- ---- descriptors

  pub close_table : AreRising es → (p x : Process) (n : ℕ) → Some p ≡ lookup pid es
      → x.descriptors ≡ without n p.descriptors → table_in (put pid x es) ≡ without_closed (one pid n) (table_in es)
  close_table rising p x n found rest = sym (closed-one pid n p x rest es rising (sym found))

  pub close_nothing : (n : ℕ) → None ≡ lookup pid es → table_in es ≡ without_closed (one pid n) (table_in es)
  close_nothing n absent = sym (closed-absent pid n es (sym absent))

  pub name_table : AreRising es → (p x : Process) (n : ℕ) (v : Named) → Some p ≡ lookup pid es
      → AreRising p.descriptors → x.descriptors ≡ put n v p.descriptors
      → table_in (put pid x es)
      ≡ with_descriptor (descriptor_in pid (n, v))
      (without_closed (closes pid n (named_among pid n (table_in es))) (table_in es))
  name_table rising p x n v found numbers more =
      sym (named-anew pid n v p x numbers more es rising (sym found) (named_among pid n (table_in es))
      (named_is rising p found n))

-- ---- a child's copies

pub fork_table : (pid child : ℕ) (es : List (ℕ × Process)) → AreRising es → (p x : Process) → Some p ≡ lookup pid es
    → AreRising p.descriptors → x.descriptors ≡ copies_of p.descriptors → was_used child (map process_in es) ≡ false
    → table_in (put child x es) ≡ with_descriptors (inherited pid child (table_in es)) (table_in es)
fork_table pid child es rising p x found numbers copies fresh =
    let copied : inherited pid child (table_in es) ≡ descriptors_in child x.descriptors =
    ap (λ ds. map (λ (d : Descriptor). record d { pid = child }) (inheritable ds))
    (sym (exit_closed pid es rising p found))
    ∙ inherited-copies pid child p.descriptors ∙ ap (descriptors_in child) (sym copies) in
    let sorted : AreRising x.descriptors = subst AreRising (sym copies)
    (filter-rises (λ (d : ℕ × Named). not (is_kqueue d.1)) p.descriptors numbers) in
    sym (ap (λ ds. with_descriptors ds (table_in es)) copied
    ∙ opened-copies child x sorted es rising (unused child es fresh))

-- the child's descriptors are these copies
pub fork_copies : (pid child : ℕ) (es : List (ℕ × Process)) → AreRising es → (p x : Process) → Some p ≡ lookup pid es
    → x.descriptors ≡ copies_of p.descriptors
    → descriptors_of child (table_in (put child x es)) ≡ inherited pid child (table_in es)
fork_copies pid child es rising p x found copies =
    of-found child (put child x es) (put-rises child x es rising)
    ∙ ap (λ o. descriptors_in child (descriptors_at o)) (lookup-put child x es)
    ∙ sym (ap (λ ds. map (λ (d : Descriptor). record d { pid = child }) (inheritable ds))
    (sym (exit_closed pid es rising p found))
    ∙ inherited-copies pid child p.descriptors ∙ ap (descriptors_in child) (sym copies))
