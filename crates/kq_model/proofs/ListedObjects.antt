-- What is noted of objects keeps each file's list of its open descriptions whole; so do a descriptor more
-- and a descriptor less.
use Rattle.std.proofs.Common.{◌≡◌, ◌∙◌, ◌==◌, ◌||◌, ◌&&◌, ℕ, ◌<◌, ◌≤◌, nat_lt, ◌⊎◌, inl, inr, ℤ, pos, ◌+ℤ◌, ◌-ℤ◌, int_lt, int_le, Bool, true, false, cond, not, eqb, eq-eqb, eqb-true, List, [], ◌∷◌, ◌++◌, filter, Option, None, Some, refl, sym, ap, subst, arith, if◌then◌else◌}
use Rattle.std.proofs.lemmas.Bool.{and_from, and_parts, cases_lt, lt-ltb, ne_eqb, or_left, or_right, true≢false}
use Rattle.std.proofs.lemmas.Bool.Decides.{nat_tests}
use Rattle.std.proofs.lemmas.Int.{ints}
use Rattle.std.proofs.lemmas.List.Elements.{All-head, All-tail, All-weaker}
use Rattle.std.proofs.lemmas.List.Folds.{list_all-append, list_any-append}
use Rattle.std.proofs.lemmas.Option.{none-some, same_Some}
use Rattle.std.specs.List.{list_all, list_any}
use Rattle.std.specs.Prelude.{All}
use Rattle.kq_model.specs.declared.doing.DescriptionRecord.{DescriptionRecord}
use Rattle.kq_model.specs.declared.doing.DescriptionRecord.TheVariants as description
use Rattle.kq_model.specs.declared.doing.Doing.TheVariants.{ToSocket, ToPipe, ToDescription, ToFile}
use Rattle.kq_model.specs.declared.doing.FileRecord.{FileRecord}
use Rattle.kq_model.specs.declared.doing.FileRecord.TheVariants as file
use Rattle.kq_model.specs.declared.doing.PipeRecord.{PipeRecord}
use Rattle.kq_model.specs.declared.doing.SocketRecord.{SocketRecord}
use Rattle.kq_model.specs.declared.mode.Mode.{Mode}
use Rattle.kq_model.specs.declared.object.Named.{Named}
use Rattle.kq_model.specs.declared.object.Named.TheVariants.{Socket, PipeRead, PipeWrite, Open, Kqueue}
use Rattle.kq_model.specs.declared.object.Target.TheVariants as target
use Rattle.kq_model.specs.Accounts.{instead}
use Rattle.kq_model.specs.Files.{DescriptionState, FileState, description_after, file_after, file_of, opened, is_description_held}
use Rattle.kq_model.specs.Holding.{hold_doings, leaving, left, release, release_doings, is_last}
use Rattle.kq_model.specs.Holders.{description_holders, holders_of, hold, all_held, all_released, times, IsCounted, IsNamed}
use Rattle.kq_model.specs.ListedFiles.{is_listed, list_of, rises, AreListed}
use Rattle.kq_model.specs.Objects.{Objects, counted, done, all_done, kept, no_objects, told_of}
use Rattle.kq_model.specs.Touching.{is_on, touches}
use Rattle.kq_model.proofs.HeldNames.{counted-more}
use Rattle.kq_model.proofs.KnoteLaws.{by_test}
use Rattle.kq_model.proofs.NamedWorld.{more_named}
use Rattle.kq_model.proofs.ReleasedAll.{release-counted}

pub listed-none : AreListed (no_objects counted)
listed-none = record {
  listed = λ place s there. absurd (none-some s there);
  only = λ place number there. absurd (true≢false (sym there));
  rising = λ number. refl;
}

-- what an object record needs of the world before it: whoever is there is held, and nothing is there at its place or later
pub record IsReady (next : ℕ) (o : Objects counted) : Type 0 where
  pub held : (place : ℕ) (s : DescriptionState) → o.description place ≡ Some s → is_description_held s ≡ true
  pub fresh : (place : ℕ) → next ≤ place → o.description place ≡ None

-- ---- sockets and pipes are nothing to the lists

pub listed-socket : (o : Objects counted) (p : ℕ) (r : SocketRecord) → AreListed o → AreListed (done (ToSocket p r) o)
unfolding done
listed-socket o p r l = record { listed = l.listed; only = l.only; rising = l.rising }

pub listed-pipe : (o : Objects counted) (p : ℕ) (r : PipeRecord) → AreListed o → AreListed (done (ToPipe p r) o)
unfolding done
listed-pipe o p r l = record { listed = l.listed; only = l.only; rising = l.rising }

pub ready-socket : (next : ℕ) (o : Objects counted) (p : ℕ) (r : SocketRecord) → IsReady next o → IsReady next (done (ToSocket p r) o)
unfolding done
ready-socket next o p r y = record { held = y.held; fresh = y.fresh }

-- ---- a description

-- what is kept of a description that was there is of the same file
kept_file : (stays : Bool) (x s : DescriptionState) → (if stays then Some x else None) ≡ Some s → x ≡ s
kept_file true x s there = same_Some x s there
kept_file false x s there = absurd (none-some s there)

told_file : (r : DescriptionRecord) (s t : DescriptionState) → file_of r ≡ None → kept counted.descriptions is_description_held (description_after r s) ≡ Some t → t.file ≡ s.file
unfolding description_after
told_file r s t same there =
    sym (ap (λ (d : DescriptionState). d.file) (kept_file (is_description_held (description_after r s)) (description_after r s) t there))
    ∙ ap (λ x. instead s.file x) same

-- what goes on being held goes on being open on its file
still_on : (r : DescriptionRecord) (s : DescriptionState) (m : ℕ) → file_of r ≡ None → is_description_held (description_after r s) ≡ true → is_on m (Some s) ≡ true
    → is_on m (kept counted.descriptions is_description_held (description_after r s)) ≡ true
unfolding description_after is_on
still_on r s m same stays on =
    ap (λ b. is_on m (if b then Some (description_after r s) else None)) stays
    ∙ ap (λ x. m == instead s.file x) same ∙ on

module _ (o : Objects counted) (p : ℕ) (r : DescriptionRecord) (s : DescriptionState) (there : o.description p ≡ Some s) (same : file_of r ≡ None) (stays : is_description_held (description_after r s) ≡ true) (l : AreListed o) where
  told_here : (q : ℕ) (t : DescriptionState) (x : Option DescriptionState) → o.description q ≡ x → p ≡ q
      → kept counted.descriptions is_description_held (told_of counted.descriptions r x) ≡ Some t → is_listed q (o.file t.file) ≡ true
  told_here q t None is here kept_now = absurd (none-some s (sym is ∙ ap o.description (sym here) ∙ there))
  told_here q t (Some u) is here kept_now =
      ap (λ n. is_listed q (o.file n)) (told_file r u t same kept_now) ∙ l.listed q u is

  told_at_place : (here : Bool) (q : ℕ) (t : DescriptionState) → (here ≡ true → p ≡ q)
      → (if here then kept counted.descriptions is_description_held (told_of counted.descriptions r (o.description q)) else o.description q) ≡ Some t
      → is_listed q (o.file t.file) ≡ true
  told_at_place true q t here now = told_here q t (o.description q) refl (here refl) now
  told_at_place false q t here now = l.listed q t now

  on_here : (m : ℕ) (x : Option DescriptionState) → x ≡ Some s → is_on m x ≡ true
      → is_on m (kept counted.descriptions is_description_held (told_of counted.descriptions r x)) ≡ true
  on_here m x is on =
      subst (λ y. is_on m (kept counted.descriptions is_description_held (told_of counted.descriptions r y)) ≡ true) (sym is)
      (still_on r s m same stays (subst (λ y. is_on m y ≡ true) is on))

  on_at_place : (here : Bool) (q m : ℕ) → (here ≡ true → p ≡ q) → is_on m (o.description q) ≡ true
      → is_on m (if here then kept counted.descriptions is_description_held (told_of counted.descriptions r (o.description q)) else o.description q) ≡ true
  on_at_place true q m here on = on_here m (o.description q) (ap o.description (sym (here refl)) ∙ there) on
  on_at_place false q m here on = on

  -- what is noted of a description that is there, and stays
  pub listed-description : AreListed (done (ToDescription p r) o)
  unfolding done
  listed-description = record {
    listed = λ q t now. told_at_place (p == q) q t (eqb-true p q) now;
    only = λ q m now. on_at_place (p == q) q m (eqb-true p q) (l.only q m now);
    rising = l.rising;
  }

-- ---- a file: nobody comes or leaves

told_list : (r : FileRecord) (x : Option FileState) → ((ps : List ℕ) → opened r ps ≡ ps) → list_of (Some (told_of counted.files r x)) ≡ list_of x
unfolding file_after
told_list r None same = same []
told_list r (Some f) same = same f.descriptions

list_at : (here : Bool) (r : FileRecord) (x : Option FileState) → ((ps : List ℕ) → opened r ps ≡ ps)
    → list_of (if here then Some (told_of counted.files r x) else x) ≡ list_of x
list_at true r x same = told_list r x same
list_at false r x same = refl

pub listed-file : (o : Objects counted) (n : ℕ) (r : FileRecord) → ((ps : List ℕ) → opened r ps ≡ ps) → AreListed o → AreListed (done (ToFile n r) o)
unfolding done
listed-file o n r same l = record {
  listed = λ q s now. ap (list_any (λ p. p == q)) (list_at (n == s.file) r (o.file s.file) same) ∙ l.listed q s now;
  only = λ q m now. l.only q m (sym (ap (list_any (λ p. p == q)) (list_at (n == m) r (o.file m) same)) ∙ now);
  rising = λ m. ap rises (list_at (n == m) r (o.file m) same) ∙ l.rising m;
}

-- ---- lists that rise

rises-push : (ps : List ℕ) (n : ℕ) → list_all (λ q. nat_lt q n) ps ≡ true → rises ps ≡ true → rises (ps ++ n ∷ []) ≡ true
rises-push [] n below up = refl
rises-push (p ∷ ps) n below up =
    let before : (nat_lt p n ≡ true) × (list_all (λ q. nat_lt q n) ps ≡ true) = and_parts _ _ below in
    let parts : (list_all (λ q. nat_lt p q) ps ≡ true) × (rises ps ≡ true) = and_parts _ _ up in
    and_from _ _
    (list_all-append (λ q. nat_lt p q) ps (n ∷ []) ∙ and_from _ _ parts.0 (and_from _ _ before.0 refl))
    (rises-push ps n before.1 parts.1)

all-filter : (r test : ℕ → Bool) (ps : List ℕ) → list_all r ps ≡ true → list_all r (filter test ps) ≡ true
all-filter r test [] all = refl
all-filter r test (p ∷ ps) all =
    let parts : (r p ≡ true) × (list_all r ps ≡ true) = and_parts _ _ all in
    by_test (λ b. list_all r (cond b (p ∷ filter test ps) (filter test ps)) ≡ true) (test p)
    (λ _. and_from _ _ parts.0 (all-filter r test ps parts.1)) (λ _. all-filter r test ps parts.1)

rises-filter : (test : ℕ → Bool) (ps : List ℕ) → rises ps ≡ true → rises (filter test ps) ≡ true
rises-filter test [] up = refl
rises-filter test (p ∷ ps) up =
    let parts : (list_all (λ q. nat_lt p q) ps ≡ true) × (rises ps ≡ true) = and_parts _ _ up in
    by_test (λ b. rises (cond b (p ∷ filter test ps) (filter test ps)) ≡ true) (test p)
    (λ _. and_from _ _ (all-filter (λ q. nat_lt p q) test ps parts.0) (rises-filter test ps parts.1)) (λ _. rises-filter test ps parts.1)

all-below : (n : ℕ) (ps : List ℕ) → ((q : ℕ) → list_any (λ p. p == q) ps ≡ true → q < n) → list_all (λ q. nat_lt q n) ps ≡ true
all-below n [] below = refl
all-below n (p ∷ ps) below =
    and_from _ _ (lt-ltb p n (below p (or_left (p == p) (list_any (λ x. x == p) ps) (eq-eqb p p refl))))
    (all-below n ps (λ q there. below q (or_right (p == q) (list_any (λ x. x == q) ps) there)))

-- ---- a description that is opened

own_place : (q : ℕ) (ps : List ℕ) → list_any (λ p. p == q) (ps ++ q ∷ []) ≡ true
own_place q ps =
    list_any-append (λ p. p == q) ps (q ∷ [])
    ∙ or_right (list_any (λ p. p == q) ps) (list_any (λ p. p == q) (q ∷ [])) (ap (λ b. b || false) (eq-eqb q q refl))

or_nothing : (b : Bool) → (b || (false || false)) ≡ b
or_nothing true = refl
or_nothing false = refl

-- of those on the list with one more, the new one and those before
one_more : (q place : ℕ) (ps : List ℕ) → list_any (λ p. p == q) (ps ++ place ∷ []) ≡ true → (place == q) ≡ false → list_any (λ p. p == q) ps ≡ true
one_more q place ps there other =
    sym (or_nothing (list_any (λ p. p == q) ps)) ∙ ap (λ b. list_any (λ p. p == q) ps || (b || false)) (sym other)
    ∙ sym (list_any-append (λ p. p == q) ps (place ∷ [])) ∙ there

list_opened : (place : ℕ) (x : Option FileState) → list_of (Some (told_of counted.files (file.Opened place) x)) ≡ list_of x ++ place ∷ []
unfolding file_after
list_opened place None = refl
list_opened place (Some f) = refl

opened_file : (number : ℕ) (mode : Mode) (x : Option DescriptionState) → (told_of counted.descriptions (description.Opened number mode) x).file ≡ number
unfolding description_after
opened_file number mode None = refl
opened_file number mode (Some s) = refl

-- one that is new is open on its file
opened_on : (number : ℕ) (mode : Mode) → is_on number (kept counted.descriptions is_description_held (told_of counted.descriptions (description.Opened number mode) None)) ≡ true
unfolding description_after is_on
opened_on number mode = eq-eqb number number refl

not_there : (m : ℕ) → is_on m None ≡ false
unfolding is_on
not_there m = refl

module _ (o : Objects counted) (place number : ℕ) (mode : Mode) (y : IsReady place o) (l : AreListed o) where
  -- the file, after the description was put on its list
  abbrev file_now : ℕ → Option FileState
  file_now n = if number == n then Some (told_of counted.files (file.Opened place) (o.file n)) else o.file n

  abbrev there_now : ℕ → Option DescriptionState
  there_now q = if place == q then kept counted.descriptions is_description_held (told_of counted.descriptions (description.Opened number mode) (o.description q)) else o.description q

  list_now : (b : Bool) (n : ℕ) → list_of (if b then Some (told_of counted.files (file.Opened place) (o.file n)) else o.file n)
      ≡ cond b (list_of (o.file n) ++ place ∷ []) (list_of (o.file n))
  list_now true n = list_opened place (o.file n)
  list_now false n = refl

  at_number : (n : ℕ) → number ≡ n → is_listed place (file_now n) ≡ true
  at_number n here =
      ap (list_any (λ p. p == place)) (list_now (number == n) n ∙ ap (λ b. cond b (list_of (o.file n) ++ place ∷ []) (list_of (o.file n))) (eq-eqb number n here))
      ∙ own_place place (list_of (o.file n))

  before_too : (b : Bool) (q n : ℕ) → is_listed q (o.file n) ≡ true
      → list_any (λ p. p == q) (cond b (list_of (o.file n) ++ place ∷ []) (list_of (o.file n))) ≡ true
  before_too true q n there = list_any-append (λ p. p == q) (list_of (o.file n)) (place ∷ []) ∙ or_left (is_listed q (o.file n)) (list_any (λ p. p == q) (place ∷ [])) there
  before_too false q n there = there

  opened_at : (here : Bool) (q : ℕ) (t : DescriptionState) → (here ≡ true → place ≡ q)
      → (if here then kept counted.descriptions is_description_held (told_of counted.descriptions (description.Opened number mode) (o.description q)) else o.description q) ≡ Some t
      → is_listed q (file_now t.file) ≡ true
  opened_at true q t here now =
      let made = told_of counted.descriptions (description.Opened number mode) (o.description q) in
      let its : number ≡ t.file = sym (opened_file number mode (o.description q))
      ∙ ap (λ (d : DescriptionState). d.file) (kept_file (is_description_held made) made t now) in
      subst (λ k. is_listed k (file_now t.file) ≡ true) (here refl) (at_number t.file its)
  opened_at false q t here now =
      ap (list_any (λ p. p == q)) (list_now (number == t.file) t.file) ∙ before_too (number == t.file) q t.file (l.listed q t now)

  -- who was on a list is another than the new one
  was_other : (q n : ℕ) → is_listed q (o.file n) ≡ true → q < place
  was_other q n there = by_order (cases_lt q place)
    where
      by_order : (q < place) ⊎ (place ≤ q) → q < place
      by_order (inl h) = h
      by_order (inr h) = absurd (true≢false (sym (l.only q n there) ∙ ap (is_on n) (y.fresh q h) ∙ not_there n))

  on_before : (q n : ℕ) → is_listed q (o.file n) ≡ true → is_on n (there_now q) ≡ true
  on_before q n there =
      let earlier = was_other q n there in
      ap (λ b. is_on n (if b then kept counted.descriptions is_description_held (told_of counted.descriptions (description.Opened number mode) (o.description q)) else o.description q))
      (ne_eqb place q (λ e. omega (arith, e, earlier)))
      ∙ l.only q n there

  -- the new one
  on_new : (q n : ℕ) → place ≡ q → number ≡ n → is_on n (there_now q) ≡ true
  on_new q n here its =
      ap (λ b. is_on n (if b then kept counted.descriptions is_description_held (told_of counted.descriptions (description.Opened number mode) (o.description q)) else o.description q)) (eq-eqb place q here)
      ∙ ap (λ x. is_on n (kept counted.descriptions is_description_held (told_of counted.descriptions (description.Opened number mode) x)))
      (y.fresh q (omega (arith, here)))
      ∙ subst (λ k. is_on k (kept counted.descriptions is_description_held (told_of counted.descriptions (description.Opened number mode) None)) ≡ true) its (opened_on number mode)

  only_at : (b : Bool) (q n : ℕ) → (b ≡ true → number ≡ n)
      → list_any (λ p. p == q) (cond b (list_of (o.file n) ++ place ∷ []) (list_of (o.file n))) ≡ true → is_on n (there_now q) ≡ true
  only_at true q n its there =
      by_test (λ _. is_on n (there_now q) ≡ true) (place == q)
      (λ same. on_new q n (eqb-true place q same) (its refl))
      (λ other. on_before q n (one_more q place (list_of (o.file n)) there other))
  only_at false q n its there = on_before q n there

  rising_at : (b : Bool) (n : ℕ) → rises (cond b (list_of (o.file n) ++ place ∷ []) (list_of (o.file n))) ≡ true
  rising_at true n = rises-push (list_of (o.file n)) place (all-below place (list_of (o.file n)) (λ q there. was_other q n there)) (l.rising n)
  rising_at false n = l.rising n

  pub listed-opened : AreListed (done (ToFile number (file.Opened place)) (done (ToDescription place (description.Opened number mode)) o))
  unfolding done
  listed-opened = record {
    listed = λ q t now. opened_at (place == q) q t (eqb-true place q) now;
    only = λ q n now. only_at (number == n) q n (eqb-true number n) (sym (ap (list_any (λ p. p == q)) (list_now (number == n) n)) ∙ now);
    rising = λ n. ap rises (list_now (number == n) n) ∙ rising_at (number == n) n;
  }

-- ---- a descriptor more

-- what is named is there
found_held : (x : Option DescriptionState) (k : ℕ) → description_holders x ≡ pos k → 1 ≤ k → (s : DescriptionState) × (x ≡ Some s) × (s.holders ≡ pos k)
found_held None k none some = absurd (let zero : 0 ≡ k = omega (arith, ints) in omega arith)
found_held (Some s) k holders some = (s, refl, holders)

more_held : (h : ℤ) (k : ℕ) → h ≡ pos k → int_lt (pos 0) (h +ℤ pos 1) ≡ true
more_held h k is = grind (arith, ints, is)

held_more : (s : DescriptionState) (k : ℕ) → s.holders ≡ pos k → is_description_held (description_after description.Held s) ≡ true
unfolding description_after
held_more s k holders = more_held s.holders k holders

pub listed-hold : (n : Named) (o : Objects counted) (names : List Named) → IsCounted o names → IsNamed n names → AreListed o → AreListed (hold n o)
unfolding hold hold_doings all_done holders_of
listed-hold (Socket p) o names c named l = listed-socket o p _ l
listed-hold (PipeRead p) o names c named l = listed-pipe o p _ l
listed-hold (PipeWrite p) o names c named l = listed-pipe o p _ l
listed-hold (Open p f) o names c named l =
    let found = found_held (o.description p) (times (Open p f) names) (c (Open p f)) named in
    listed-description o p description.Held found.0 found.1 refl (held_more found.0 (times (Open p f) names) found.2) l
listed-hold (Kqueue p) o names c named l = l

pub listed-all_held : (ns : List Named) (o : Objects counted) (names : List Named) → IsCounted o names → All (λ n. IsNamed n names) ns
    → AreListed o → AreListed (all_held ns o)
unfolding all_held times
listed-all_held [] o names c named l = l
listed-all_held (n ∷ ns) o names c named l =
    listed-all_held ns (hold n o) (n ∷ names) (counted-more n o names (n ∷ names) (λ m. refl) c)
    (All-weaker (λ m. IsNamed m names) (λ m. IsNamed m (n ∷ names)) (λ m. more_named m n names) ns (All-tail (λ m. IsNamed m names) n ns named))
    (listed-hold n o names c (All-head (λ m. IsNamed m names) n ns named) l)

-- ---- a descriptor less

away_too : (x p q : ℕ) → eqb x p ≡ true → eqb p q ≡ false → eqb x q ≡ false
away_too x p q = grind (arith, nat_tests)

-- others stay on the list
others_listed : (q p : ℕ) (ps : List ℕ) → (p == q) ≡ false → list_any (λ x. x == q) (filter (λ x. not (x == p)) ps) ≡ list_any (λ x. x == q) ps
others_listed q p [] away = refl
others_listed q p (x ∷ ps) away =
    by_test (λ b. list_any (λ x. x == q) (cond (not b) (x ∷ filter (λ x. not (x == p)) ps) (filter (λ x. not (x == p)) ps)) ≡ list_any (λ x. x == q) (x ∷ ps)) (x == p)
    (λ gone. others_listed q p ps away ∙ sym (ap (λ b. b || list_any (λ x. x == q) ps) (away_too x p q gone away)))
    (λ _. ap (λ b. (x == q) || b) (others_listed q p ps away))

-- who left is not on it
gone_off : (p : ℕ) (ps : List ℕ) → list_any (λ x. x == p) (filter (λ x. not (x == p)) ps) ≡ false
gone_off p [] = refl
gone_off p (x ∷ ps) =
    by_test (λ b. list_any (λ x. x == p) (cond (not b) (x ∷ filter (λ x. not (x == p)) ps) (filter (λ x. not (x == p)) ps)) ≡ false) (x == p)
    (λ _. gone_off p ps)
    (λ other. ap (λ b. b || list_any (λ x. x == p) (filter (λ x. not (x == p)) ps)) other ∙ gone_off p ps)

list_left : (p : ℕ) (x : Option FileState) → list_of (Some (told_of counted.files (file.Left p) x)) ≡ filter (λ q. not (q == p)) (list_of x)
unfolding file_after
list_left p None = refl
list_left p (Some f) = refl

-- with its last descriptor a description ends
last_ends : (h : ℤ) → int_le h (pos 1) ≡ true → int_lt (pos 0) (h -ℤ pos 1) ≡ false
last_ends h last = grind (arith, ints)

-- with another it goes on
more_remain : (h : ℤ) → int_le h (pos 1) ≡ false → int_lt (pos 0) (h -ℤ pos 1) ≡ true
more_remain h more = grind (arith, ints)

ended : (s : DescriptionState) → is_last s.holders ≡ true → kept counted.descriptions is_description_held (description_after description.Released s) ≡ None
unfolding description_after
ended s last = ap (λ b. if b then Some (description_after description.Released s) else None) (last_ends s.holders last)

goes_on : (s : DescriptionState) → is_last s.holders ≡ false → is_description_held (description_after description.Released s) ≡ true
unfolding description_after
goes_on s more = more_remain s.holders more

never_was : kept counted.descriptions is_description_held (told_of counted.descriptions description.Released None) ≡ None
unfolding description_after
never_was = refl

-- at a place where nothing is kept, and nowhere else, a description is gone
gone_at : (here : Bool) (q : ℕ) (o : Objects counted) (x : Option DescriptionState) (t : DescriptionState) → (here ≡ true → o.description q ≡ x)
    → kept counted.descriptions is_description_held (told_of counted.descriptions description.Released x) ≡ None
    → (if here then kept counted.descriptions is_description_held (told_of counted.descriptions description.Released (o.description q)) else o.description q) ≡ Some t
    → (here ≡ false) × (o.description q ≡ Some t)
gone_at true q o x t is none now =
    absurd (none-some t (sym none
    ∙ ap (λ y. kept counted.descriptions is_description_held (told_of counted.descriptions description.Released y)) (sym (is refl)) ∙ now))
gone_at false q o x t is none now = (refl, now)

on_its_own : (s : DescriptionState) (m : ℕ) → is_on m (Some s) ≡ true → m ≡ s.file
unfolding is_on
on_its_own s m on = eqb-true m s.file on

module _ (o : Objects counted) (p : ℕ) (l : AreListed o) where
  abbrev rest_now : ℕ → Option DescriptionState
  rest_now q = if p == q then kept counted.descriptions is_description_held (told_of counted.descriptions description.Released (o.description q)) else o.description q

  others_on : (q m : ℕ) → (p == q) ≡ false → is_on m (o.description q) ≡ true → is_on m (rest_now q) ≡ true
  others_on q m away on =
      ap (λ b. is_on m (if b then kept counted.descriptions is_description_held (told_of counted.descriptions description.Released (o.description q)) else o.description q)) away ∙ on

  -- it stands on no list
  listed-ended : (x : Option DescriptionState) → o.description p ≡ x
      → kept counted.descriptions is_description_held (told_of counted.descriptions description.Released x) ≡ None
      → ((m : ℕ) → is_listed p (o.file m) ≡ false) → AreListed (done (ToDescription p description.Released) o)
  unfolding done
  listed-ended x is none nowhere = record {
    listed = λ q t now. l.listed q t (gone_at (p == q) q o x t (λ here. ap o.description (sym (eqb-true p q here)) ∙ is) none now).1;
    only = λ q m now.
        by_test (λ _. is_on m (rest_now q) ≡ true) (p == q)
        (λ same. absurd (true≢false (sym now ∙ ap (λ k. is_listed k (o.file m)) (sym (eqb-true p q same)) ∙ nowhere m)))
        (λ away. others_on q m away (l.only q m now));
    rising = l.rising;
  }

  abbrev left_now : Bool → ℕ → Option FileState
  left_now b m = if b then Some (told_of counted.files (file.Left p) (o.file m)) else o.file m

  list_after : (b : Bool) (m : ℕ) → list_of (left_now b m) ≡ cond b (filter (λ q. not (q == p)) (list_of (o.file m))) (list_of (o.file m))
  list_after true m = list_left p (o.file m)
  list_after false m = refl

  same_others : (b : Bool) (q m : ℕ) → (p == q) ≡ false
      → list_any (λ x. x == q) (cond b (filter (λ x. not (x == p)) (list_of (o.file m))) (list_of (o.file m))) ≡ is_listed q (o.file m)
  same_others true q m away = others_listed q p (list_of (o.file m)) away
  same_others false q m away = refl

  rising_after : (b : Bool) (m : ℕ) → rises (cond b (filter (λ q. not (q == p)) (list_of (o.file m))) (list_of (o.file m))) ≡ true
  rising_after true m = rises-filter (λ q. not (q == p)) (list_of (o.file m)) (l.rising m)
  rising_after false m = l.rising m

  -- on the list of another file it was not
  is_off : (s : DescriptionState) → o.description p ≡ Some s → (b : Bool) (m : ℕ) → (s.file == m) ≡ b
      → list_any (λ x. x == p) (cond b (filter (λ x. not (x == p)) (list_of (o.file m))) (list_of (o.file m))) ≡ false
  is_off s is true m its = gone_off p (list_of (o.file m))
  is_off s is false m its =
      by_test (λ b. b ≡ false) (is_listed p (o.file m))
      (λ there. absurd (true≢false (sym (eq-eqb s.file m (sym (on_its_own s m (sym (ap (is_on m) is) ∙ l.only p m there)))) ∙ its)))
      (λ _. refl)

  listed-left : (s : DescriptionState) → o.description p ≡ Some s
      → kept counted.descriptions is_description_held (told_of counted.descriptions description.Released (Some s)) ≡ None
      → AreListed (done (ToFile s.file (file.Left p)) (done (ToDescription p description.Released) o))
  unfolding done
  listed-left s is none = record {
    listed = λ q t now.
        let other = gone_at (p == q) q o (Some s) t (λ here. ap o.description (sym (eqb-true p q here)) ∙ is) none now in
        ap (list_any (λ x. x == q)) (list_after (s.file == t.file) t.file) ∙ same_others (s.file == t.file) q t.file other.0 ∙ l.listed q t other.1;
    only = λ q m now.
        let there = sym (ap (list_any (λ x. x == q)) (list_after (s.file == m) m)) ∙ now in
        by_test (λ _. is_on m (rest_now q) ≡ true) (p == q)
        (λ same. absurd (true≢false (sym there
        ∙ ap (λ k. list_any (λ x. x == k) (cond (s.file == m) (filter (λ x. not (x == p)) (list_of (o.file m))) (list_of (o.file m)))) (sym (eqb-true p q same))
        ∙ is_off s is (s.file == m) m refl)))
        (λ away. others_on q m away (l.only q m (sym (same_others (s.file == m) q m away) ∙ there)));
    rising = λ m. ap rises (list_after (s.file == m) m) ∙ rising_after (s.file == m) m;
  }

  listed-leaving : (f : Option FileState) (s : DescriptionState) → o.file s.file ≡ f → o.description p ≡ Some s
      → kept counted.descriptions is_description_held (told_of counted.descriptions description.Released (Some s)) ≡ None
      → AreListed (all_done (leaving p s.file f) (done (ToDescription p description.Released) o))
  unfolding leaving all_done
  listed-leaving None s no_file is none = absurd (true≢false (sym (l.listed p s is) ∙ ap (is_listed p) no_file))
  listed-leaving (Some f) s its is none = listed-left s is none

  never_listed : o.description p ≡ None → (m : ℕ) → is_listed p (o.file m) ≡ false
  never_listed is m =
      by_test (λ b. b ≡ false) (is_listed p (o.file m))
      (λ there. absurd (true≢false (sym (l.only p m there) ∙ ap (is_on m) is ∙ not_there m)))
      (λ _. refl)

  listed-closed : (x : Option DescriptionState) → o.description p ≡ x → AreListed (all_done (left p x o) (done (ToDescription p description.Released) o))
  unfolding left all_done
  listed-closed None is = listed-ended None is never_was (never_listed is)
  listed-closed (Some s) is =
      by_test (λ b. AreListed (all_done (if b then leaving p s.file (o.file s.file) else []) (done (ToDescription p description.Released) o))) (is_last s.holders)
      (λ last. listed-leaving (o.file s.file) s refl is (ended s last))
      (λ more. listed-description o p description.Released s is refl (goes_on s more) l)

pub listed-release : (n : Named) (o : Objects counted) → AreListed o → AreListed (release n o)
unfolding release_doings all_done
listed-release (Socket p) o l = subst AreListed (sym (release-counted (Socket p) o)) (listed-socket o p _ l)
listed-release (PipeRead p) o l = subst AreListed (sym (release-counted (PipeRead p) o)) (listed-pipe o p _ l)
listed-release (PipeWrite p) o l = subst AreListed (sym (release-counted (PipeWrite p) o)) (listed-pipe o p _ l)
listed-release (Open p f) o l = subst AreListed (sym (release-counted (Open p f) o)) (listed-closed o p l (o.description p) refl)
listed-release (Kqueue p) o l = subst AreListed (sym (release-counted (Kqueue p) o)) l

pub listed-all_released : (ns : List Named) (o : Objects counted) → AreListed o → AreListed (all_released ns o)
unfolding all_released
listed-all_released [] o l = l
listed-all_released (n ∷ ns) o l = listed-all_released ns (release n o) (listed-release n o l)

-- ---- whose view a file's record can change

on_list : (o : Objects counted) (place n : ℕ) (x : Option DescriptionState) → o.description place ≡ x → AreListed o → is_on n x ≡ true → is_listed place (o.file n) ≡ true
unfolding is_on
on_list o place n None is l on = absurd (true≢false (sym on))
on_list o place n (Some s) is l on = ap (λ k. is_listed place (o.file k)) (eqb-true n s.file on) ∙ l.listed place s is

-- the descriptions that what is noted of a file touches are those on its list
pub touches-listed : (o : Objects counted) (place n : ℕ) (r : FileRecord) → AreListed o → touches (target.Open place) (ToFile n r) o ≡ true
    → is_listed place (o.file n) ≡ true
unfolding touches
touches-listed o place n r l touched = on_list o place n (o.description place) refl l touched
