-- Lists of slots that are linked: what holds when one is linked behind the last, and when one is passed over.
use Rattle.std.proofs.Common.{◌≡◌, ℕ, zero, suc, ◌≤◌, true, false, cond, ◌||◌, eqb, List, [], ◌∷◌, ◌++◌, length, Option, Some, None, inl, inr, append-nil, refl, sym, ap, ◌∙◌, subst, arith}
use Rattle.std.proofs.lemmas.Bool.{false≢true, eqb-true, eqb-false, eq-eqb, ne_eqb, or_cases, or_parts, or_from, or_left, or_right, false_from_ne_true}
use Rattle.std.specs.Option.{option_map, is_none}
use Rattle.kq_table.specs.declared.node.Ends.{Ends}
use Rattle.kq_table.specs.declared.node.Links.{Links}
use Rattle.kq_table.specs.Threads.{is_at, is_in, AreDistinct, head_or, last_or, AreLinked, IsThread, after_of, walk, with_after, with_before, joined, written, put_first, put_last, ends_led, ends_with, passed_over, ends_past}

abbrev link : Option ℕ → Option ℕ → Links
link before after = record { before = before; after = after }

abbrev set_after : Option ℕ → Links → Links
set_after after l = record l { after = after }

abbrev set_before : Option ℕ → Links → Links
set_before before l = record l { before = before }

-- ---- slots in lists

pub eqb-refl : (s : ℕ) → eqb s s ≡ true
eqb-refl s = eq-eqb s s refl

pub apart-sym : (a b : ℕ) → eqb a b ≡ false → eqb b a ≡ false
apart-sym a b e = ne_eqb b a (λ is. eqb-false a b e (sym is))

-- what is in a list is none that is not
pub apart-in : (y t : ℕ) (ys : List ℕ) → is_in y ys ≡ false → is_in t ys ≡ true → eqb t y ≡ false
apart-in y t ys out there = ne_eqb t y (λ is. false≢true (sym out ∙ ap (λ n. is_in n ys) (sym is) ∙ there))

pub is_in-here : (s : ℕ) (slots : List ℕ) → is_in s (s ∷ slots) ≡ true
is_in-here s slots = or_left (eqb s s) (is_in s slots) (eqb-refl s)

pub is_in-append : (t : ℕ) (xs ys : List ℕ) → is_in t (xs ++ ys) ≡ (is_in t xs || is_in t ys)
is_in-append t [] ys = refl
is_in-append t (x ∷ xs) ys =
    elim (eqb t x) as (λ b. (b || is_in t (xs ++ ys)) ≡ ((b || is_in t xs) || is_in t ys)) [ true ↦ refl | false ↦ is_in-append t xs ys ]

pub in_left : (t : ℕ) (xs ys : List ℕ) → is_in t xs ≡ true → is_in t (xs ++ ys) ≡ true
in_left t xs ys there = is_in-append t xs ys ∙ or_left (is_in t xs) (is_in t ys) there

pub in_right : (t : ℕ) (xs ys : List ℕ) → is_in t ys ≡ true → is_in t (xs ++ ys) ≡ true
in_right t xs ys there = is_in-append t xs ys ∙ or_right (is_in t xs) (is_in t ys) there

pub out_of : (t : ℕ) (xs ys : List ℕ) → is_in t (xs ++ ys) ≡ false → (is_in t xs ≡ false) × (is_in t ys ≡ false)
out_of t xs ys out = or_parts (is_in t xs) (is_in t ys) (sym (is_in-append t xs ys) ∙ out)

pub out_from : (t : ℕ) (xs ys : List ℕ) → is_in t xs ≡ false → is_in t ys ≡ false → is_in t (xs ++ ys) ≡ false
out_from t xs ys left right = is_in-append t xs ys ∙ or_from (is_in t xs) (is_in t ys) left right

pub AreDistinct-left : (xs ys : List ℕ) → AreDistinct (xs ++ ys) → AreDistinct xs
AreDistinct-left [] ys d = tt
AreDistinct-left (x ∷ xs) ys d = ((out_of x xs ys d.0).0, AreDistinct-left xs ys d.1)

pub AreDistinct-right : (xs ys : List ℕ) → AreDistinct (xs ++ ys) → AreDistinct ys
AreDistinct-right [] ys d = d
AreDistinct-right (x ∷ xs) ys d = AreDistinct-right xs ys d.1

pub AreDistinct-apart : (xs ys : List ℕ) → AreDistinct (xs ++ ys) → (t : ℕ) → is_in t xs ≡ true → is_in t ys ≡ false
AreDistinct-apart [] ys d t there = absurd (false≢true there)
AreDistinct-apart (x ∷ xs) ys d t there =
    elim (or_cases (eqb t x) (is_in t xs) there) [
      | inl is ↦ ap (λ n. is_in n ys) (eqb-true t x is) ∙ (out_of x xs ys d.0).1
      | inr later ↦ AreDistinct-apart xs ys d.1 t later
    ]

pub AreDistinct-behind : (xs ys : List ℕ) → AreDistinct (xs ++ ys) → (t : ℕ) → is_in t ys ≡ true → is_in t xs ≡ false
AreDistinct-behind xs ys d t there =
    false_from_ne_true (is_in t xs) (λ in_xs. false≢true (sym (AreDistinct-apart xs ys d t in_xs) ∙ there))

pub AreDistinct-insert : (xs : List ℕ) (s : ℕ) (ys : List ℕ) → AreDistinct (xs ++ ys) → is_in s (xs ++ ys) ≡ false → AreDistinct (xs ++ s ∷ ys)
AreDistinct-insert [] s ys d out = (out, d)
AreDistinct-insert (x ∷ xs) s ys d out =
    let parts = or_parts (eqb s x) (is_in s (xs ++ ys)) out in
    let both = out_of x xs ys d.0 in (
      out_from x xs (s ∷ ys) both.0 (or_from (eqb x s) (is_in x ys) (apart-sym s x parts.0) both.1),
      AreDistinct-insert xs s ys d.1 parts.1,
    )

pub AreDistinct-push : (l : List ℕ) (s : ℕ) → AreDistinct l → is_in s l ≡ false → AreDistinct (l ++ s ∷ [])
AreDistinct-push l s d out = AreDistinct-insert l s [] (subst AreDistinct (sym (append-nil l)) d) (ap (is_in s) (append-nil l) ∙ out)

pub AreDistinct-drop : (xs : List ℕ) (s : ℕ) (ys : List ℕ) → AreDistinct (xs ++ s ∷ ys) → AreDistinct (xs ++ ys)
AreDistinct-drop [] s ys d = d.1
AreDistinct-drop (x ∷ xs) s ys d =
    let both = out_of x xs (s ∷ ys) d.0 in
    (out_from x xs ys both.0 (or_parts (eqb x s) (is_in x ys) both.1).1, AreDistinct-drop xs s ys d.1)

-- what stands between is not in the rest
pub AreDistinct-gone : (xs : List ℕ) (s : ℕ) (ys : List ℕ) → AreDistinct (xs ++ s ∷ ys) → (is_in s xs ≡ false) × (is_in s ys ≡ false)
AreDistinct-gone xs s ys d = (AreDistinct-behind xs (s ∷ ys) d s (is_in-here s ys), (AreDistinct-right xs (s ∷ ys) d).0)

-- a list at one of its slots
split : (s : ℕ) (slots : List ℕ) → is_in s slots ≡ true → (xs : List ℕ) × (ys : List ℕ) × (slots ≡ xs ++ s ∷ ys)
split s [] there = absurd (false≢true there)
split s (x ∷ slots) there =
    elim (or_cases (eqb s x) (is_in s slots) there) [
      | inl is ↦ ([], slots, ap (λ n. n ∷ slots) (sym (eqb-true s x is)))
      | inr later ↦ let rest = split s slots later in (x ∷ rest.0, rest.1, ap (λ l. x ∷ l) rest.2)
    ]

-- what holds of a list that is split at one of its slots holds of the list
pub at_split : (P : List ℕ → Type 0) (s : ℕ) (slots : List ℕ) → is_in s slots ≡ true → ((xs ys : List ℕ) → P (xs ++ s ∷ ys)) → P slots
at_split P s slots there step = let parts = split s slots there in subst P (sym parts.2) (step parts.0 parts.1)

-- ---- the first and the last

pub last_or-append : (before : Option ℕ) (xs ys : List ℕ) → last_or before (xs ++ ys) ≡ last_or (last_or before xs) ys
last_or-append before [] ys = refl
last_or-append before (x ∷ xs) ys = last_or-append (Some x) xs ys

pub head_or-append : (after : Option ℕ) (xs ys : List ℕ) → head_or after (xs ++ ys) ≡ head_or (head_or after ys) xs
head_or-append after [] ys = refl
head_or-append after (x ∷ xs) ys = refl

pub last-named : (x : ℕ) (xs : List ℕ) → is_none (last_or (Some x) xs) ≡ false
last-named x [] = refl
last-named x (y ∷ xs) = last-named y xs

not_last : (before : Option ℕ) (xs : List ℕ) (t : ℕ) → is_at before t ≡ false → is_in t xs ≡ false → is_at (last_or before xs) t ≡ false
not_last before [] t apart out = apart
not_last before (x ∷ xs) t apart out =
    let parts = or_parts (eqb t x) (is_in t xs) out in not_last (Some x) xs t parts.0 parts.1

not_head : (ys : List ℕ) (t : ℕ) → is_in t ys ≡ false → is_at (head_or None ys) t ≡ false
not_head [] t out = refl
not_head (y ∷ ys) t out = (or_parts (eqb t y) (is_in t ys) out).0

-- ---- links

pub AreLinked-same : (f g : ℕ → Option Links) (p : Option ℕ) (xs : List ℕ) (a : Option ℕ) → ((t : ℕ) → is_in t xs ≡ true → g t ≡ f t) → AreLinked f p xs a → AreLinked g p xs a
AreLinked-same f g p [] a same l = tt
AreLinked-same f g p (x ∷ xs) a same l = (
  same x (is_in-here x xs) ∙ l.0,
  AreLinked-same f g (Some x) xs a (λ t there. same t (or_right (eqb t x) (is_in t xs) there)) l.1,
)

pub AreLinked-parts : (f : ℕ → Option Links) (p : Option ℕ) (xs ys : List ℕ) (a : Option ℕ) → AreLinked f p (xs ++ ys) a → AreLinked f p xs (head_or a ys) × AreLinked f (last_or p xs) ys a
AreLinked-parts f p [] ys a l = (tt, l)
AreLinked-parts f p (x ∷ xs) ys a l =
    let rest = AreLinked-parts f (Some x) xs ys a l.1 in
    ((l.0 ∙ ap (λ after. Some (link p after)) (head_or-append a xs ys), rest.0), rest.1)

AreLinked-whole : (f : ℕ → Option Links) (p : Option ℕ) (xs ys : List ℕ) (a : Option ℕ) → AreLinked f p xs (head_or a ys) → AreLinked f (last_or p xs) ys a → AreLinked f p (xs ++ ys) a
AreLinked-whole f p [] ys a front back = back
AreLinked-whole f p (x ∷ xs) ys a front back =
    (front.0 ∙ ap (λ after. Some (link p after)) (sym (head_or-append a xs ys)), AreLinked-whole f (Some x) xs ys a front.1 back)

pub AreLinked-at : (f : ℕ → Option Links) (p : Option ℕ) (xs : List ℕ) (a : Option ℕ) (t : ℕ) → AreLinked f p xs a → is_in t xs ≡ true → (l : Links) × (f t ≡ Some l)
AreLinked-at f p [] a t l there = absurd (false≢true there)
AreLinked-at f p (x ∷ xs) a t l there =
    elim (or_cases (eqb t x) (is_in t xs) there) [
      | inl is ↦ (link p (head_or a xs), ap f (eqb-true t x is) ∙ l.0)
      | inr later ↦ AreLinked-at f (Some x) xs a t l.1 later
    ]

-- what a slot in the middle has before it and behind it
pub AreLinked-between : (f : ℕ → Option Links) (xs : List ℕ) (s : ℕ) (ys : List ℕ) → AreLinked f None (xs ++ s ∷ ys) None → f s ≡ Some (link (last_or None xs) (head_or None ys))
AreLinked-between f xs s ys l = (AreLinked-parts f None xs (s ∷ ys) None l).1.0

-- ---- another one behind the last, and before the first

after-here : (at after : Option ℕ) (f : ℕ → Option Links) (t : ℕ) → is_at at t ≡ true → with_after at after f t ≡ option_map (set_after after) (f t)
after-here at after f t is = ap (λ b. cond b (option_map (set_after after) (f t)) (f t)) is

after-away : (at after : Option ℕ) (f : ℕ → Option Links) (t : ℕ) → is_at at t ≡ false → with_after at after f t ≡ f t
after-away at after f t apart = ap (λ b. cond b (option_map (set_after after) (f t)) (f t)) apart

before-here : (at before : Option ℕ) (f : ℕ → Option Links) (t : ℕ) → is_at at t ≡ true → with_before at before f t ≡ option_map (set_before before) (f t)
before-here at before f t is = ap (λ b. cond b (option_map (set_before before) (f t)) (f t)) is

before-away : (at before : Option ℕ) (f : ℕ → Option Links) (t : ℕ) → is_at at t ≡ false → with_before at before f t ≡ f t
before-away at before f t apart = ap (λ b. cond b (option_map (set_before before) (f t)) (f t)) apart

behind-last : (f : ℕ → Option Links) (p : Option ℕ) (x : ℕ) (xs : List ℕ) (q a : Option ℕ) → AreLinked f p (x ∷ xs) q → AreDistinct (x ∷ xs) → AreLinked (with_after (last_or (Some x) xs) a f) p (x ∷ xs) a
behind-last f p x [] q a l d = (after-here (Some x) a f x (eqb-refl x) ∙ ap (option_map (set_after a)) l.0, tt)
behind-last f p x (y ∷ xs) q a l d =
    let parts = or_parts (eqb x y) (is_in x xs) d.0 in
    (after-away (last_or (Some y) xs) a f x (not_last (Some y) xs x parts.0 parts.1) ∙ l.0, behind-last f (Some x) y xs q a l.1 d.1)

AreLinked-after : (f : ℕ → Option Links) (p : Option ℕ) (xs : List ℕ) (q a : Option ℕ) → AreLinked f p xs q → AreDistinct xs → AreLinked (with_after (last_or None xs) a f) p xs a
AreLinked-after f p [] q a l d = tt
AreLinked-after f p (x ∷ xs) q a l d = behind-last f p x xs q a l d

AreLinked-before : (f : ℕ → Option Links) (p b : Option ℕ) (ys : List ℕ) (a : Option ℕ) → AreLinked f p ys a → AreDistinct ys → AreLinked (with_before (head_or None ys) b f) b ys a
AreLinked-before f p b [] a l d = tt
AreLinked-before f p b (y ∷ ys) a l d = (
  before-here (Some y) b f y (eqb-refl y) ∙ ap (option_map (set_before b)) l.0,
  AreLinked-same f (with_before (Some y) b f) (Some y) ys a (λ t there. before-away (Some y) b f t (apart-in y t ys d.0 there)) l.1,
)

AreLinked-join : (f : ℕ → Option Links) (xs ys : List ℕ) (q p : Option ℕ) → AreLinked f None xs q → AreLinked f p ys None → AreDistinct (xs ++ ys) → AreLinked (joined (last_or None xs) (head_or None ys) f) None (xs ++ ys) None
AreLinked-join f xs ys q p front back d =
    let last = last_or None xs in
    let next = head_or None ys in
    let once = with_after last next f in
    AreLinked-whole (joined last next f) None xs ys None
    (AreLinked-same once (joined last next f) None xs next
    (λ t there. before-away next last once t (not_head ys t (AreDistinct-apart xs ys d t there)))
    (AreLinked-after f None xs q next front (AreDistinct-left xs ys d)))
    (AreLinked-before once p last ys None
    (AreLinked-same f once p ys None (λ t there. after-away last next f t (not_last None xs t refl (AreDistinct-behind xs ys d t there))) back)
    (AreDistinct-right xs ys d))

-- ---- threads

pub IsThread-same : (f g : ℕ → Option Links) (e : Ends) (l : List ℕ) → ((t : ℕ) → is_in t l ≡ true → g t ≡ f t) → IsThread f e l → IsThread g e l
IsThread-same f g e l same is = record {
  linked = AreLinked-same f g None l None same is.linked;
  distinct = is.distinct;
  first = is.first;
  last = is.last;
}

-- a slot of a thread with its links
pub IsThread-at : (f : ℕ → Option Links) (e : Ends) (l : List ℕ) (t : ℕ) → IsThread f e l → is_in t l ≡ true → (links : Links) × (f t ≡ Some links)
IsThread-at f e l t is there = AreLinked-at f None l None t is.linked there

module _ (f : ℕ → Option Links) (e : Ends) (l : List ℕ) (s : ℕ) (is : IsThread f e l) where
  abbrev with_new : Option ℕ → ℕ → Option Links
  with_new last = written s (Some (link last None)) f

  abbrev ends_at : Option ℕ → Ends
  ends_at last = record { first = cond (is_none last) (Some s) e.first; last = Some s }

  first-push : (l : List ℕ) → e.first ≡ head_or None l → cond (is_none (last_or None l)) (Some s) e.first ≡ head_or None (l ++ s ∷ [])
  first-push [] first = refl
  first-push (x ∷ xs) first = ap (λ b. cond b (Some s) e.first) (last-named x xs) ∙ first

  pub IsThread-push : is_in s l ≡ false → IsThread (put_last e.last s f) (ends_with s e) (l ++ s ∷ [])
  IsThread-push out =
      let last = last_or None l in
      let new = with_new last in
      let pushed : IsThread (with_after last (Some s) new) (ends_at last) (l ++ s ∷ []) = record {
        linked = AreLinked-whole (with_after last (Some s) new) None l (s ∷ []) None
            (AreLinked-after new None l None (Some s)
            (AreLinked-same f new None l None (λ t there. ap (λ b. cond b (Some (link last None)) (f t)) (apart-in s t l out there)) is.linked) is.distinct)
            (after-away last (Some s) new s (not_last None l s refl out) ∙ ap (λ b. cond b (Some (link last None)) (f s)) (eqb-refl s), tt);
        distinct = AreDistinct-push l s is.distinct out;
        first = first-push l is.first;
        last = sym (last_or-append None l (s ∷ []));
      } in
      subst (λ o. IsThread (with_after o (Some s) (with_new o)) (ends_at o) (l ++ s ∷ [])) (sym is.last) pushed

  abbrev led_by : Option ℕ → ℕ → Option Links
  led_by first = written s (Some (link None first)) f

  last-lead : (l : List ℕ) → e.last ≡ last_or None l → cond (is_none (head_or None l)) (Some s) e.last ≡ last_or (Some s) l
  last-lead [] last = refl
  last-lead (x ∷ xs) last = last

  pub IsThread-lead : is_in s l ≡ false → IsThread (put_first e.first s f) (ends_led s e) (s ∷ l)
  IsThread-lead out =
      let first = head_or None l in
      let new = led_by first in
      let led : IsThread (with_before first (Some s) new) (record { first = Some s; last = cond (is_none first) (Some s) e.last }) (s ∷ l) = record {
        linked = (
          before-away first (Some s) new s (not_head l s out) ∙ ap (λ b. cond b (Some (link None first)) (f s)) (eqb-refl s),
          AreLinked-before new None (Some s) l None
              (AreLinked-same f new None l None (λ t there. ap (λ b. cond b (Some (link None first)) (f t)) (apart-in s t l out there)) is.linked) is.distinct,
        );
        distinct = (out, is.distinct);
        first = refl;
        last = last-lead l is.last;
      } in
      subst (λ o. IsThread (with_before o (Some s) (led_by o)) (record { first = Some s; last = cond (is_none o) (Some s) e.last }) (s ∷ l)) (sym is.first) led

  -- elsewhere nothing changes
  pub put_last-away : (t : ℕ) → is_in t l ≡ false → eqb t s ≡ false → put_last e.last s f t ≡ f t
  put_last-away t out apart =
      after-away e.last (Some s) (with_new e.last) t (ap (λ o. is_at o t) is.last ∙ not_last None l t refl out)
      ∙ ap (λ b. cond b (Some (link e.last None)) (f t)) apart

module _ (f : ℕ → Option Links) (e : Ends) (xs : List ℕ) (s : ℕ) (ys : List ℕ) (is : IsThread f e (xs ++ s ∷ ys)) where
  here : f s ≡ Some (link (last_or None xs) (head_or None ys))
  here = AreLinked-between f xs s ys is.linked

  first-past : (xs : List ℕ) → e.first ≡ head_or None (xs ++ s ∷ ys) → cond (is_none (last_or None xs)) (head_or None ys) e.first ≡ head_or None (xs ++ ys)
  first-past [] first = refl
  first-past (x ∷ xs) first = ap (λ b. cond b (head_or None ys) e.first) (last-named x xs) ∙ first

  last-past : (ys : List ℕ) → e.last ≡ last_or None (xs ++ s ∷ ys) → cond (is_none (head_or None ys)) (last_or None xs) e.last ≡ last_or None (xs ++ ys)
  last-past [] last = sym (last_or-append None xs [])
  last-past (y ∷ ys) last = last ∙ last_or-append None xs (s ∷ (y ∷ ys)) ∙ sym (last_or-append None xs (y ∷ ys))

  pub IsThread-past : IsThread (passed_over (f s) f) (ends_past (f s) e) (xs ++ ys)
  IsThread-past =
      let parts = AreLinked-parts f None xs (s ∷ ys) None is.linked in
      let distinct = AreDistinct-drop xs s ys is.distinct in
      let past : IsThread (passed_over (Some (link (last_or None xs) (head_or None ys))) f) (ends_past (Some (link (last_or None xs) (head_or None ys))) e) (xs ++ ys) = record {
        linked = AreLinked-join f xs ys (Some s) (Some s) parts.0 parts.1.1 distinct;
        distinct = distinct;
        first = first-past xs is.first;
        last = last-past ys is.last;
      } in
      subst (λ o. IsThread (passed_over o f) (ends_past o e) (xs ++ ys)) (sym here) past

  -- elsewhere nothing changes
  pub passed_over-away : (t : ℕ) → is_in t (xs ++ s ∷ ys) ≡ false → passed_over (f s) f t ≡ f t
  passed_over-away t out =
      let both = out_of t xs (s ∷ ys) out in
      let last = last_or None xs in
      let next = head_or None ys in
      ap (λ o. passed_over o f t) here
      ∙ before-away next last (with_after last next f) t (not_head ys t (or_parts (eqb t s) (is_in t ys) both.1).1)
      ∙ after-away last next f t (not_last None xs t refl both.0)

-- a walk from the first finds them all
pub walk-linked : (f : ℕ → Option Links) (p : Option ℕ) (l : List ℕ) (n : ℕ) → AreLinked f p l None → length l ≤ n → walk f n (head_or None l) ≡ l
walk-linked f p [] zero l fits = refl
walk-linked f p [] (suc n) l fits = refl
walk-linked f p (x ∷ xs) zero l fits = absurd (omega arith)
walk-linked f p (x ∷ xs) (suc n) l fits =
    ap (λ rest. x ∷ rest) (ap (λ o. walk f n (after_of o)) l.0 ∙ walk-linked f (Some x) xs n l.1 (omega arith))
