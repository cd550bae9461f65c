-- The turns of a backward walk.
use Rattle.std.specs.Cmp.{IsEquivalence}
use Rattle.std.proofs.Common.{◌≡◌, ℕ, ◌+◌, ◌<◌, ◌≤◌, Bool, true, List, [], ◌∷◌, ◌++◌, length, get_or, take, drop, Some, Option, sym, refl, ap, ◌∙◌, subst, arith}
use Rattle.std.proofs.lemmas.List.{append_assoc, get_or_at, take-append-drop, take_at, drop_at, length-append, length-take-le, take_more, drop_more}
use Rattle.ledger.specs.Spans.{Span}
use Rattle.rangemap.specs.Spans.{span, Leads, Tight, From, Ends, put, put_at, Rest, Changed, Walk, Turn}
use Rattle.rangemap.proofs.Held.{canonical_right, ends_last}
use Rattle.rangemap.proofs.Rests.{rest_start, rest_drop, rest_cut}
use Rattle.rangemap.proofs.Inserts.{insert_clear, insert_split, insert_joined}

module _ {V : Type 0} {eq : V → V → Bool} (laws : IsEquivalence eq) (l h : ℕ) (m : Option V → Option V) (le : l ≤ h) where
  -- the walk begins at s
  pub walk_start : (old : List (Span V)) (addr : ℕ) (s : Span V) → Tight eq old → addr < length old → s ≡ get_or old addr s → s.low ≤ h → l ≤ s.high → From h (drop (addr + 1) old) → (w : Walk eq l h m h old old addr s) × From h w.back
  walk_start old addr s canonical lt read low high from =
      let next : drop addr old ≡ s ∷ drop (addr + 1) old = drop_more old addr s lt ∙ ap (λ x. x ∷ drop (addr + 1) old) (sym read) in
      let split : old ≡ take addr old ++ s ∷ drop (addr + 1) old = sym (take-append-drop addr old) ∙ ap (λ zs. take addr old ++ zs) next in
      let tail = canonical_right eq (take addr old) (s ∷ drop (addr + 1) old) (subst (Tight eq) split canonical) in (
        record {
          front = take addr old;
          back = drop (addr + 1) old;
          rest = drop (addr + 1) old;
          was = split;
          is = split;
          index = length-take-le addr old (omega arith);
          low = low;
          high = high;
          leads = λ _. (refl, tail.1);
          done = rest_start laws l h m (drop (addr + 1) old) le tail.2 from;
        },
        from,
      )

-- The walk stands at s.
module _ {V : Type 0} {eq : V → V → Bool} {l h : ℕ} {m : Option V → Option V} {b : ℕ} {old now : List (Span V)} {addr : ℕ} {s : Span V} (w : Walk eq l h m b old now addr s) where
  pub walk_reads : (d : Span V) → get_or now addr d ≡ s
  walk_reads d = ap (λ ss. get_or ss addr d) w.is ∙ get_or_at w.front s w.rest d addr w.index

  pub walk_full : Tight eq old → s.low < s.high
  walk_full canonical = (canonical_right eq w.front (s ∷ w.back) (subst (Tight eq) w.was canonical)).0

  pub walk_back_canonical : Tight eq old → Tight eq w.back
  walk_back_canonical canonical = (canonical_right eq w.front (s ∷ w.back) (subst (Tight eq) w.was canonical)).2

  rest_is : drop (addr + 1) now ≡ w.rest
  rest_is = ap (drop (addr + 1)) (w.is ∙ sym (append_assoc w.front (s ∷ []) w.rest)) ∙ drop_at (w.front ++ s ∷ []) w.rest (addr + 1) (length-append w.front (s ∷ []) ∙ ap (λ n. n + 1) w.index)

  pub walk_done : Rest eq l h m b w.back (drop (addr + 1) now)
  walk_done = subst (Rest eq l h m b w.back) (sym rest_is) w.done

  pub turn_from : (c : ℕ) (next zs : List (Span V)) (j : ℕ) → s.low ≤ c → take addr next ≡ take addr now → drop j next ≡ zs → Rest eq l h m c (s ∷ w.back) zs → Turn eq l h m c s old next addr j
  turn_from c next zs j low same tail rest =
      let front : take addr next ≡ w.front = same ∙ ap (take addr) w.is ∙ take_at w.front (s ∷ w.rest) addr w.index in
      record {
        back = w.back;
        was = w.was ∙ ap (λ ys. ys ++ s ∷ w.back) (sym front);
        index = ap length front ∙ w.index;
        low = low;
        high = w.high;
        done = subst (Rest eq l h m c (s ∷ w.back)) (sym tail) rest;
      }

module _ {V : Type 0} {eq : V → V → Bool} (laws : IsEquivalence eq) {l h : ℕ} {m : Option V → Option V} {b : ℕ} {old now : List (Span V)} {addr : ℕ} {s : Span V} (w : Walk eq l h m b old now addr s) where
  -- s ends by b, and is done with
  pub walk_whole : s.high ≤ b → Rest eq l h m b (s ∷ w.back) (drop (addr + 1) now)
  walk_whole within = rest_drop laws l h m b s w.back (drop (addr + 1) now) within (walk_done w)

  -- s passes b, and keeps what it has from there on
  pub walk_cut : l ≤ h → b < s.high → Rest eq l h m b (s ∷ w.back) (span b s.high s.value ∷ drop (addr + 1) now)
  walk_cut le past =
      let leads = w.leads past in
      rest_cut laws l h m b s w.back (drop (addr + 1) now) le (omega (arith, leads.0)) w.low past (subst (Leads eq s.high s.value) (sym (rest_is w)) leads.1) (walk_done w)

-- The span x right before the one that is done with.
module _ {V : Type 0} {eq : V → V → Bool} {l h : ℕ} {m : Option V → Option V} {b : ℕ} {s : Span V} (x : Span V) {old now : List (Span V)} {addr j : ℕ} (prev : ℕ) (t : Turn eq l h m b s old now addr j) (canonical : Tight eq old) (step : prev + 1 ≡ addr) (lt : prev < length now) (read : x ≡ get_or now prev x) where
  front_is : take addr now ≡ take prev now ++ x ∷ []
  front_is = ap (λ k. take k now) (sym step) ∙ take_more now prev x lt ∙ ap (λ y. take prev now ++ y ∷ []) (sym read)

  pub was_is : old ≡ take prev now ++ x ∷ s ∷ t.back
  was_is = t.was ∙ ap (λ zs. zs ++ s ∷ t.back) front_is ∙ append_assoc (take prev now) (x ∷ []) (s ∷ t.back)

  split_at : Tight eq (take prev now ++ x ∷ s ∷ t.back)
  split_at = subst (Tight eq) was_is canonical

  pub last_full : x.low < x.high
  last_full = (canonical_right eq (take prev now) (x ∷ s ∷ t.back) split_at).0

  pub last_order : x.high ≤ s.low
  last_order = (canonical_right eq (take prev now) (x ∷ s ∷ t.back) split_at).1.order

  -- where x ends before c, so does all before it
  pub last_ends : (c : ℕ) → x.high < c → Ends (λ e. e < c) (take addr now)
  last_ends c end = subst (Ends (λ e. e < c)) (sym front_is) (ends_last eq c (take prev now) x (s ∷ t.back) split_at end)

  -- the walk goes on at x
  pub walk_back : (next : List (Span V)) → next ≡ take addr now ++ drop j now → x.low ≤ b → l ≤ x.high → (w : Walk eq l h m b old next prev x) × (w.back ≡ s ∷ t.back)
  walk_back next edit low high = (
    record {
      front = take prev now;
      back = s ∷ t.back;
      rest = drop j now;
      was = was_is;
      is = edit ∙ ap (λ zs. zs ++ drop j now) front_is ∙ append_assoc (take prev now) (x ∷ []) (drop j now);
      index = length-take-le prev now (omega arith);
      low = low;
      high = high;
      leads = λ past. absurd (omega (arith, t.low, last_order));
      done = t.done;
    },
    refl,
  )

-- The ends of the walk of `insert`.
module _ {V : Type 0} {eq : V → V → Bool} (laws : IsEquivalence eq) {l h : ℕ} (v : V) (full : l < h) {s : Span V} {old now : List (Span V)} {addr j : ℕ} (t : Turn eq l h (λ _. Some v) h s old now addr j) (canonical : Tight eq old) where
  split : Tight eq (take addr now ++ s ∷ t.back)
  split = subst (Tight eq) t.was canonical

  pub turn_clear : l ≤ s.low → Ends (λ e. e < l) (take addr now) → Changed eq l h (λ _. Some v) old (put_at eq now addr j (span l h v))
  turn_clear low ends =
      subst (λ zs. Changed eq l h (λ _. Some v) zs (put_at eq now addr j (span l h v))) (sym t.was)
      (insert_clear laws l h v full (take addr now) (s ∷ t.back) (drop j now) split low ends t.done)

  pub turn_joined : s.low < l → eq s.value v ≡ true → Changed eq l h (λ _. Some v) old (put_at eq now addr j (span s.low h v))
  turn_joined low same =
      subst (λ zs. Changed eq l h (λ _. Some v) zs (put_at eq now addr j (span s.low h v))) (sym t.was)
      (insert_joined laws l h v full (take addr now) s t.back (drop j now) split low t.high same t.done)

  pub turn_split : s.low < l → Changed eq l h (λ _. Some v) old (put_at eq (put_at eq now addr j (span l h v)) addr addr (span s.low l s.value))
  turn_split low =
      let front = take_at (take addr now) (put eq (span l h v) (drop j now)) addr t.index in
      let tail = drop_at (take addr now) (put eq (span l h v) (drop j now)) addr t.index in
      let done = subst (λ zs. Changed eq l h (λ _. Some v) zs (take addr now ++ put eq (span s.low l s.value) (put eq (span l h v) (drop j now)))) (sym t.was) (insert_split laws l h v full (take addr now) s t.back (drop j now) split low t.high t.done) in
      subst (λ ys. Changed eq l h (λ _. Some v) old (ys ++ put eq (span s.low l s.value) (drop addr (put_at eq now addr j (span l h v))))) (sym front)
      (subst (λ ys. Changed eq l h (λ _. Some v) old (take addr now ++ put eq (span s.low l s.value) ys)) (sym tail) done)
