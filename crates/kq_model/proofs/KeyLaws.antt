-- Keys and lists of keys: what the test for one key tells, and the laws of the operations.
use Rattle.std.proofs.Common.{◌≡◌, ℕ, true, false, cond, ◌||◌, eqb, List, ◌++◌, filter, refl, sym, ap, ◌∙◌}
use Rattle.std.proofs.lemmas.Bool.{eqb-true, eq-eqb, and_parts}
use Rattle.kq_model.proofs.ListLaws.{same_answer, list_any-append, list_any-filter_same, list_any-filter_other}
use Rattle.kq_model.specs.declared.filter.Filter.{Filter}
use Rattle.kq_model.specs.declared.filter.Filter.TheVariants.{Read, Write, Vnode, Proc, Signal, Timer, User, Aio, Lio, Fs, Procdesc, Sendfile, Empty}
use Rattle.kq_model.specs.declared.key.Key.{Key}
use Rattle.kq_model.specs.Knote.{filter_number, filter_eq, key_eq, has_key, without_key}

-- the filter of a number
abbrev filter_at : ℕ → Filter
filter_at n =
    cond (eqb n 0) Read (cond (eqb n 1) Write (cond (eqb n 2) Vnode (cond (eqb n 3) Proc
    (cond (eqb n 4) Signal (cond (eqb n 5) Timer (cond (eqb n 6) User (cond (eqb n 7) Aio
    (cond (eqb n 8) Lio (cond (eqb n 9) Fs (cond (eqb n 10) Procdesc (cond (eqb n 11) Sendfile Empty)))))))))))

filter_at-number : (f : Filter) → filter_at (filter_number f) ≡ f
filter_at-number Read = refl
filter_at-number Write = refl
filter_at-number Vnode = refl
filter_at-number Proc = refl
filter_at-number Signal = refl
filter_at-number Timer = refl
filter_at-number User = refl
filter_at-number Aio = refl
filter_at-number Lio = refl
filter_at-number Fs = refl
filter_at-number Procdesc = refl
filter_at-number Sendfile = refl
filter_at-number Empty = refl

-- filters with one number are one
pub same_filter : (f g : Filter) → filter_eq f g ≡ true → f ≡ g
same_filter f g e =
    sym (filter_at-number f) ∙ ap filter_at (eqb-true (filter_number f) (filter_number g) e) ∙ filter_at-number g

abbrev keyed : ℕ → Filter → Key
keyed ident filter = record { ident = ident; filter = filter }

-- keys that pass the test are one key
pub same_key : (a b : Key) → key_eq a b ≡ true → a ≡ b
same_key a b e =
    let parts = and_parts (eqb a.ident b.ident) (filter_eq a.filter b.filter) e in
    let same_ident : a.ident ≡ b.ident = eqb-true a.ident b.ident parts.0 in
    let same : a.filter ≡ b.filter = same_filter a.filter b.filter parts.1 in
    ap (λ ident. keyed ident a.filter) same_ident ∙ ap (keyed b.ident) same

pub key_eq-refl : (a : Key) → key_eq a a ≡ true
key_eq-refl a =
    rw (eq-eqb a.ident a.ident refl, eq-eqb (filter_number a.filter) (filter_number a.filter) refl) refl

pub key_eq-sym : (a b : Key) → key_eq a b ≡ key_eq b a
key_eq-sym a b =
    same_answer (key_eq a b) (key_eq b a)
    (λ e. rw (sym (same_key a b e)) (key_eq-refl a))
    (λ e. rw (sym (same_key b a e)) (key_eq-refl b))

-- a key that differs from one differs from all that are that one
pub key_eq-apart : (key gone other : Key) → key_eq gone key ≡ false → key_eq gone other ≡ true → key_eq key other ≡ false
key_eq-apart key gone other apart same = rw (sym (same_key gone other same)) (key_eq-sym key gone ∙ apart)

-- ---- lists of keys

pub has_key-append : (key : Key) (xs ys : List Key) → has_key key (xs ++ ys) ≡ has_key key xs || has_key key ys
has_key-append key xs ys = list_any-append (key_eq key) xs ys

pub has_key-without_same : (gone : Key) (xs : List Key) → has_key gone (without_key gone xs) ≡ false
has_key-without_same gone xs = list_any-filter_same (key_eq gone) xs

pub has_key-without_other : (key gone : Key) (xs : List Key) → key_eq gone key ≡ false → has_key key (without_key gone xs) ≡ has_key key xs
has_key-without_other key gone xs apart =
    list_any-filter_other (key_eq key) (key_eq gone) (λ other same. key_eq-apart key gone other apart same) xs
