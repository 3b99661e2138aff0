-- Descriptors more and descriptors less: each condition that they make hold is told.
use Rattle.std.proofs.Common.{◌≡◌, ℕ, ◌≤◌, pos, Bool, true, false, List, [], ◌∷◌, ◌++◌, Option, Some, None, refl, sym, ap, subst, ◌∙◌, arith, if◌then◌else◌}
use Rattle.std.proofs.lemmas.Bool.{or_parts}
use Rattle.std.proofs.lemmas.Int.{ints}
use Rattle.std.proofs.lemmas.List.Elements.{All-head, All-tail, All-weaker}
use Rattle.std.proofs.lemmas.List.Folds.{list_any-append}
use Rattle.std.specs.Prelude.{All}
use Rattle.kq_model.specs.declared.doing.DescriptionRecord.TheVariants as description
use Rattle.kq_model.specs.declared.doing.Doing.{Doing}
use Rattle.kq_model.specs.declared.doing.Doing.TheVariants.{ToSocket, ToPipe}
use Rattle.kq_model.specs.declared.doing.PipeRecord.TheVariants as pipe
use Rattle.kq_model.specs.declared.doing.SocketRecord.TheVariants as socket
use Rattle.kq_model.specs.declared.object.Hint.{Hint}
use Rattle.kq_model.specs.declared.object.Hint.TheVariants.{Readable, Writable}
use Rattle.kq_model.specs.declared.object.Named.{Named}
use Rattle.kq_model.specs.declared.object.Named.TheVariants.{Socket, PipeRead, PipeWrite, Open, Kqueue}
use Rattle.kq_model.specs.declared.object.Target.{Target}
use Rattle.kq_model.specs.declared.object.Target.TheVariants as target
use Rattle.kq_model.specs.declared.side.Side.{Side}
use Rattle.kq_model.specs.declared.side.Side.TheVariants as side_of
use Rattle.kq_model.specs.Files.{DescriptionState, description_after}
use Rattle.kq_model.specs.Holding.{readers, writers, hold_doings, end_hint, is_last, option_list, release, release_doings, release_hint, release_all, release_hints}
use Rattle.kq_model.specs.Holders.{socket_holders, description_holders, holders_of, hold, times, IsCounted, IsNamed}
use Rattle.kq_model.specs.ObjectPlan as object
use Rattle.kq_model.specs.Objects.{Objects, counted, all_done, view_of}
use Rattle.kq_model.specs.Pipes.{PipeState}
use Rattle.kq_model.specs.ProcessPlans.{hold_all}
use Rattle.kq_model.specs.Sockets.{SocketState}
use Rattle.kq_model.specs.Targets.{Posted}
use Rattle.kq_model.proofs.HeldNames.{counted-more}
use Rattle.kq_model.proofs.NamedWorld.{more_named}
use Rattle.kq_model.proofs.ReleasedAll.{all_done-append, release-counted}
use Rattle.kq_laws.proofs.FileWakes.{description-tells, closed-tells}
use Rattle.kq_laws.proofs.ObjectWakes.{Tells, socket-tells, socket-gone-tells, pipe-tells, pipe-gone-tells}
use Rattle.kq_laws.proofs.PipeWakes as pipe_wakes
use Rattle.kq_laws.proofs.PipeWakes.{end_told}
use Rattle.kq_laws.proofs.Shown.{is_for, is_told, shown}
use Rattle.kq_laws.proofs.SocketWakes as socket_wakes

-- ---- what is named is there

some-counted : (k : ℕ) → pos 0 ≡ pos k → 1 ≤ k → ⊥
some-counted k none some = let zero : 0 ≡ k = omega (arith, ints) in omega arith

pub found_socket : (x : Option SocketState) (k : ℕ) → socket_holders x ≡ pos k → 1 ≤ k → (s : SocketState) × (x ≡ Some s)
found_socket None k none some = absurd (some-counted k none some)
found_socket (Some s) k holders some = (s, refl)

pub found_reader : (x : Option PipeState) (k : ℕ) → readers x ≡ pos k → 1 ≤ k → (s : PipeState) × (x ≡ Some s)
found_reader None k none some = absurd (some-counted k none some)
found_reader (Some s) k holders some = (s, refl)

pub found_writer : (x : Option PipeState) (k : ℕ) → writers x ≡ pos k → 1 ≤ k → (s : PipeState) × (x ≡ Some s)
found_writer None k none some = absurd (some-counted k none some)
found_writer (Some s) k holders some = (s, refl)

pub found_description : (x : Option DescriptionState) (k : ℕ) → description_holders x ≡ pos k → 1 ≤ k → (s : DescriptionState) × (x ≡ Some s)
found_description None k none some = absurd (some-counted k none some)
found_description (Some s) k holders some = (s, refl)

-- ---- one more

-- with nothing told it is told whatever is said
silently : (o : Objects counted) (ds : List Doing) (posted : List Posted) (t : Target) → Tells o ds [] t → Tells o ds posted t
silently o ds posted t tells side mark quiet e = tells side mark refl e

pub hold-tells : (n : Named) (o : Objects counted) (names : List Named) → IsCounted o names → IsNamed n names → (posted : List Posted) (t : Target)
    → Tells o (hold_doings n) posted t
unfolding hold_doings holders_of object.hints_for all_done description_after
hold-tells (Socket p) o names c named posted t =
    let found = found_socket (o.socket p) (times (Socket p) names) (c (Socket p)) named in
    silently o (ToSocket p socket.Held ∷ []) posted t (socket-tells o p socket.Held None found.0 found.1 (socket_wakes.held-tells found.0) t)
hold-tells (PipeRead p) o names c named posted t =
    let found = found_reader (o.pipe p) (times (PipeRead p) names) (c (PipeRead p)) named in
    silently o (ToPipe p (pipe.Held side_of.Read) ∷ []) posted t
    (pipe-tells o p (pipe.Held side_of.Read) None found.0 found.1 (pipe_wakes.held-tells found.0 side_of.Read) t)
hold-tells (PipeWrite p) o names c named posted t =
    let found = found_writer (o.pipe p) (times (PipeWrite p) names) (c (PipeWrite p)) named in
    silently o (ToPipe p (pipe.Held side_of.Write) ∷ []) posted t
    (pipe-tells o p (pipe.Held side_of.Write) None found.0 found.1 (pipe_wakes.held-tells found.0 side_of.Write) t)
hold-tells (Open p f) o names c named posted t =
    let found = found_description (o.description p) (times (Open p f) names) (c (Open p f)) named in
    description-tells o p description.Held posted found.0 found.1 refl (λ side _ e. e) t
hold-tells (Kqueue p) o names c named posted t = λ side mark quiet e. e

-- ---- many more

held-counted : (n : Named) (o : Objects counted) (names : List Named) → IsCounted o names → IsCounted (all_done (hold_doings n) o) (n ∷ names)
unfolding hold times
held-counted n o names c = counted-more n o names (n ∷ names) (λ m. refl) c

pub hold_all-tells : (ns : List Named) (o : Objects counted) (names : List Named) → IsCounted o names → All (λ n. IsNamed n names) ns
    → (posted : List Posted) (t : Target) → Tells o (hold_all ns) posted t
unfolding hold_all all_done times
hold_all-tells [] o names c named posted t side mark quiet e = e
hold_all-tells (n ∷ ns) o names c named posted t side mark quiet e =
    hold-tells n o names c (All-head (λ m. IsNamed m names) n ns named) posted t side mark quiet
    (hold_all-tells ns (all_done (hold_doings n) o) (n ∷ names) (held-counted n o names c)
    (All-weaker (λ m. IsNamed m names) (λ m. IsNamed m (n ∷ names)) (λ m. more_named m n names) ns (All-tail (λ m. IsNamed m names) n ns named))
    posted t side mark quiet (ap (λ x. shown side mark (view_of t x)) (sym (all_done-append (hold_doings n) (hold_all ns) o)) ∙ e))

-- ---- one less

end-list : (last : Bool) (p : ℕ) (hint : Hint)
    → object.hints_for (target.Pipe p) (if last then Some hint else None) ≡ option_list (if last then Some (target.Pipe p, hint) else None)
unfolding object.hints_for option_list
end-list true p hint = refl
end-list false p hint = refl

release_socket : (o : Objects counted) (p : ℕ) (x : Option SocketState) → o.socket p ≡ x → (t : Target) → Tells o (ToSocket p socket.Released ∷ []) [] t
unfolding object.hints_for
release_socket o p None none t = socket-gone-tells o p none t
release_socket o p (Some s) there t = socket-tells o p socket.Released None s there (socket_wakes.released-tells s) t

release_reader : (o : Objects counted) (p : ℕ) (x : Option PipeState) → o.pipe p ≡ x → (t : Target)
    → Tells o (ToPipe p (pipe.Released side_of.Read) ∷ []) (option_list (end_hint p Writable (readers x))) t
unfolding end_hint
release_reader o p None none t = pipe-gone-tells o p side_of.Read (option_list (end_hint p Writable (pos 0))) none t
release_reader o p (Some s) there t =
    subst (λ posted. Tells o (ToPipe p (pipe.Released side_of.Read) ∷ []) posted t) (end-list (is_last s.readers) p Writable)
    (pipe-tells o p (pipe.Released side_of.Read) (end_told Writable s.readers) s there (pipe_wakes.reader-released s) t)

release_writer : (o : Objects counted) (p : ℕ) (x : Option PipeState) → o.pipe p ≡ x → (t : Target)
    → Tells o (ToPipe p (pipe.Released side_of.Write) ∷ []) (option_list (end_hint p Readable (writers x))) t
unfolding end_hint
release_writer o p None none t = pipe-gone-tells o p side_of.Write (option_list (end_hint p Readable (pos 0))) none t
release_writer o p (Some s) there t =
    subst (λ posted. Tells o (ToPipe p (pipe.Released side_of.Write) ∷ []) posted t) (end-list (is_last s.writers) p Readable)
    (pipe-tells o p (pipe.Released side_of.Write) (end_told Readable s.writers) s there (pipe_wakes.writer-released s) t)

pub release-tells : (n : Named) (o : Objects counted) (t : Target) → Tells o (release_doings n o) (option_list (release_hint n o)) t
unfolding release_doings release_hint all_done option_list
release-tells (Socket p) o t = release_socket o p (o.socket p) refl t
release-tells (PipeRead p) o t = release_reader o p (o.pipe p) refl t
release-tells (PipeWrite p) o t = release_writer o p (o.pipe p) refl t
release-tells (Open p f) o t = closed-tells o p (option_list (release_hint (Open p f) o)) t
release-tells (Kqueue p) o t = λ side mark quiet e. e

-- ---- many less, each after the one before it

pub told-either : (side : Side) (t : Target) (first second : List Posted) → is_told side t (first ++ second) ≡ false
    → (is_told side t first ≡ false) × (is_told side t second ≡ false)
told-either side t first second quiet =
    or_parts (is_told side t first) (is_told side t second) (sym (list_any-append (is_for side t) first second) ∙ quiet)

pub release_all-tells : (ns : List Named) (o : Objects counted) (t : Target) → Tells o (release_all ns o) (release_hints ns o) t
unfolding release_all release_hints all_done
release_all-tells [] o t side mark quiet e = e
release_all-tells (n ∷ ns) o t side mark quiet e =
    let both = told-either side t (option_list (release_hint n o)) (release_hints ns (release n o)) quiet in
    release-tells n o t side mark both.0
    (ap (λ x. shown side mark (view_of t x)) (sym (release-counted n o))
    ∙ release_all-tells ns (release n o) t side mark both.1
    (ap (λ x. shown side mark (view_of t (all_done (release_all ns (release n o)) x))) (release-counted n o)
    ∙ ap (λ x. shown side mark (view_of t x)) (sym (all_done-append (release_doings n o) (release_all ns (release n o)) o))
    ∙ e))
