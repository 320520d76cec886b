-- The worked positions and changes hold.
use Rattle.std.proofs.Common.{◌≡◌, ℕ, ◌+◌, ◌<◌, ◌≤◌, List, [], ◌∷◌, ◌++◌, length, refl, sym, ap, ◌∙◌, arith}
use Rattle.std.proofs.Common.{inl, inr, append_assoc}
use Rattle.std.specs.Prelude.{◌⊎◌}
use Rattle.std.specs.Str.{NonePass}
use Rattle.std.proofs.Math.Utf8.{encode, encodes}
use Rattle.std.proofs.lemmas.Str.{encode_same}
use Rattle.lsp_text.specs.declared.encoding.Encoding.{Encoding}
use Rattle.lsp_text.specs.declared.encoding.Encoding.TheVariants.{Utf8, Utf16}
use Rattle.lsp_text.specs.Units.{unit_count, units}
use Rattle.lsp_text.specs.Lines.{is_line_end, feed, carriage, both, IsFirstLine, IsBehind, StopsLine}
use Rattle.lsp_text.specs.Positions.{Stands, Means}
use Rattle.lsp_text.specs.examples.Rows.{Rows, at, mixed, ended, first, second}
use Rattle.lsp_text.proofs.LineLaws.{behind_same, no_line}
use Rattle.lsp_text.proofs.PlaceLaws.{within_line}
use Rattle.lsp_text.proofs.Meanings.{means_itself}

-- beginnings of a text that goes on with a character: one is no longer, or it has that character too
compare : (e : Encoding) (bs cs x y : List ℕ) (d : ℕ) → encodes bs ++ x ≡ encodes cs ++ (encode d ++ y) →
    (units e bs ≤ units e cs) ⊎ (units e cs + unit_count e d ≤ units e bs)
compare e [] cs x y d h = inl (omega arith)
compare e (b ∷ bs) [] x y d h =
    let one = encode_same b d (encodes bs ++ x) y (sym (append_assoc (encode b) (encodes bs) x) ∙ h) in
    let count : unit_count e b ≡ unit_count e d = ap (λ (z : ℕ). unit_count e z) one.0 in
    inr (omega arith)
compare e (b ∷ bs) (c ∷ cs) x y d h =
    let one = encode_same b c (encodes bs ++ x) (encodes cs ++ (encode d ++ y))
    (sym (append_assoc (encode b) (encodes bs) x) ∙ h ∙ append_assoc (encode c) (encodes cs) (encode d ++ y)) in
    let count : unit_count e b ≡ unit_count e c = ap (λ (z : ℕ). unit_count e z) one.0 in
    by count (compare e bs cs x y d one.1) where
      by : unit_count e b ≡ unit_count e c → (units e bs ≤ units e cs) ⊎ (units e cs + unit_count e d ≤ units e bs) →
          (unit_count e b + units e bs ≤ unit_count e c + units e cs) ⊎
          ((unit_count e c + units e cs) + unit_count e d ≤ unit_count e b + units e bs)
      by count (inl low) = inl (omega arith)
      by count (inr high) = inr (omega arith)

-- a position before the end of a character means its beginning
means_within : (e : Encoding) (text : List ℕ) (l c o d character : ℕ) (y : List ℕ) (s : Stands e text l c o) → s.behind ≡ encode d ++ y →
    c ≤ character → character < c + unit_count e d → Means e text (at l character) o
means_within e text l c o d character y s next low high =
    inl (record {
      column = c;
      stands = s;
      within = low;
      last = λ k p t le. by k p t le (compare e t.before s.before t.behind y d
          (sym t.cut ∙ behind_same l text t.rest s.rest t.lines s.lines ∙ s.cut ∙ ap (λ (zs : List ℕ). encodes s.before ++ zs) next));
    }) where
      by : (k p : ℕ) (t : Stands e text l k p) → k ≤ character →
          (units e t.before ≤ units e s.before) ⊎ (units e s.before + unit_count e d ≤ units e t.before) → k ≤ c
      by k p t le (inl less) =
          let a : k ≡ units e t.before = t.counts in let b : c ≡ units e s.before = s.counts in omega arith
      by k p t le (inr more) =
          let a : k ≡ units e t.before = t.counts in let b : c ≡ units e s.before = s.counts in absurd (omega arith)

units_append : (e : Encoding) (xs ys : List ℕ) → units e xs ≤ units e (xs ++ ys)
units_append e [] ys = omega arith
units_append e (x ∷ xs) ys = let t : units e xs ≤ units e (xs ++ ys) = units_append e xs ys in omega arith

-- a position behind the end of its line means that end
means_end : (e : Encoding) (text : List ℕ) (l c o character : ℕ) (s : Stands e text l c o) → StopsLine s.behind → c ≤ character →
    Means e text (at l character) o
means_end e text l c o character s stops low =
    inl (record {
      column = c;
      stands = s;
      within = low;
      last = λ k p t le. by k p t (within_line t.before s.before t.behind s.behind
          (sym t.cut ∙ behind_same l text t.rest s.rest t.lines s.lines ∙ s.cut) t.plain stops);
    }) where
      by : (k p : ℕ) (t : Stands e text l k p) → (ds : List ℕ) × (s.before ≡ t.before ++ ds) × (t.behind ≡ encodes ds ++ s.behind) → k ≤ c
      by k p t w =
          let a : k ≡ units e t.before = t.counts in
          let b : c ≡ units e s.before = s.counts in
          let more : units e t.before ≤ units e (t.before ++ w.0) = units_append e t.before w.0 in
          let same : units e s.before ≡ units e (t.before ++ w.0) = ap (λ (zs : List ℕ). units e zs) w.1 in
          omega arith

-- in a line that isn't there it means the end
means_no_line : (e : Encoding) (text : List ℕ) (i l character : ℕ) (rest : List ℕ) → IsBehind i text rest → NonePass is_line_end rest → i < l →
    Means e text (at l character) (length text)
means_no_line e text i l character rest behind none less = inr ((λ r. no_line i l text rest r behind none less), refl)

before_pair : Stands Utf16 mixed 0 2 3
unfolding lib.Utf8.encode
before_pair = record {
  rest = mixed;
  before = 97 ∷ 228 ∷ [];
  behind = 240 ∷ 159 ∷ 152 ∷ 128 ∷ 98 ∷ [];
  lines = refl;
  cut = refl;
  plain = (refl, (refl, (refl, tt)));
  counts = refl;
  here = refl;
}

behind_pair : Stands Utf16 mixed 0 4 7
unfolding lib.Utf8.encode
behind_pair = record {
  rest = mixed;
  before = 97 ∷ 228 ∷ 128512 ∷ [];
  behind = 98 ∷ [];
  lines = refl;
  cut = refl;
  plain = (refl, (refl, (refl, (refl, (refl, (refl, (refl, tt)))))));
  counts = refl;
  here = refl;
}

behind_all : Stands Utf16 mixed 0 5 8
unfolding lib.Utf8.encode
behind_all = record {
  rest = mixed;
  before = 97 ∷ 228 ∷ 128512 ∷ 98 ∷ [];
  behind = [];
  lines = refl;
  cut = refl;
  plain = (refl, (refl, (refl, (refl, (refl, (refl, (refl, (refl, tt))))))));
  counts = refl;
  here = refl;
}

before_two : Stands Utf8 mixed 0 1 1
unfolding lib.Utf8.encode
before_two = record {
  rest = mixed;
  before = 97 ∷ [];
  behind = 195 ∷ 164 ∷ 240 ∷ 159 ∷ 152 ∷ 128 ∷ 98 ∷ [];
  lines = refl;
  cut = refl;
  plain = (refl, tt);
  counts = refl;
  here = refl;
}

before_four : Stands Utf8 mixed 0 3 3
unfolding lib.Utf8.encode
before_four = record {
  rest = mixed;
  before = 97 ∷ 228 ∷ [];
  behind = 240 ∷ 159 ∷ 152 ∷ 128 ∷ 98 ∷ [];
  lines = refl;
  cut = refl;
  plain = (refl, (refl, (refl, tt)));
  counts = refl;
  here = refl;
}

-- the lines of the second text
first_line : IsFirstLine ended (97 ∷ []) (98 ∷ 13 ∷ 99 ∷ 10 ∷ 100 ∷ [])
first_line = record { ending = both; spells = refl; plain = (refl, tt); stands = tt }

next_line : IsFirstLine (98 ∷ 13 ∷ 99 ∷ 10 ∷ 100 ∷ []) (98 ∷ []) (99 ∷ 10 ∷ 100 ∷ [])
next_line = record { ending = carriage; spells = refl; plain = (refl, tt); stands = refl }

last_line : IsFirstLine (99 ∷ 10 ∷ 100 ∷ []) (99 ∷ []) (100 ∷ [])
last_line = record { ending = feed; spells = refl; plain = (refl, tt); stands = tt }

behind_one : IsBehind 1 ended (98 ∷ 13 ∷ 99 ∷ 10 ∷ 100 ∷ [])
behind_one = (97 ∷ [], 98 ∷ 13 ∷ 99 ∷ 10 ∷ 100 ∷ [], first_line, refl)

behind_two : IsBehind 2 ended (99 ∷ 10 ∷ 100 ∷ [])
behind_two = (97 ∷ [], 98 ∷ 13 ∷ 99 ∷ 10 ∷ 100 ∷ [], first_line, (98 ∷ [], 99 ∷ 10 ∷ 100 ∷ [], next_line, refl))

behind_three : IsBehind 3 ended (100 ∷ [])
behind_three = (
  97 ∷ [],
  98 ∷ 13 ∷ 99 ∷ 10 ∷ 100 ∷ [],
  first_line,
  (98 ∷ [], 99 ∷ 10 ∷ 100 ∷ [], next_line, (99 ∷ [], 100 ∷ [], last_line, refl)),
)

-- where a line begins a place stands, and behind a character of ASCII another
begins : (e : Encoding) (text : List ℕ) (l o : ℕ) (rest : List ℕ) → IsBehind l text rest → o + length rest ≡ length text → Stands e text l 0 o
begins e text l o rest lines here = record {
  rest = rest;
  before = [];
  behind = rest;
  lines = lines;
  cut = refl;
  plain = tt;
  counts = refl;
  here = here;
}

behind_a : Stands Utf16 ended 0 1 1
unfolding lib.Utf8.encode
behind_a = record {
  rest = ended;
  before = 97 ∷ [];
  behind = 13 ∷ 10 ∷ 98 ∷ 13 ∷ 99 ∷ 10 ∷ 100 ∷ [];
  lines = refl;
  cut = refl;
  plain = (refl, tt);
  counts = refl;
  here = refl;
}

behind_b : Stands Utf16 ended 1 1 4
unfolding lib.Utf8.encode
behind_b = record {
  rest = 98 ∷ 13 ∷ 99 ∷ 10 ∷ 100 ∷ [];
  before = 98 ∷ [];
  behind = 13 ∷ 99 ∷ 10 ∷ 100 ∷ [];
  lines = behind_one;
  cut = refl;
  plain = (refl, tt);
  counts = refl;
  here = refl;
}

-- the places of the changes
start : Stands Utf16 first 0 1 1
unfolding lib.Utf8.encode
start = record {
  rest = first;
  before = 97 ∷ [];
  behind = 98 ∷ 10 ∷ 99 ∷ 100 ∷ [];
  lines = refl;
  cut = refl;
  plain = (refl, tt);
  counts = refl;
  here = refl;
}

stop : Stands Utf16 first 1 1 4
unfolding lib.Utf8.encode
stop = record {
  rest = 99 ∷ 100 ∷ [];
  before = 99 ∷ [];
  behind = 100 ∷ [];
  lines = (97 ∷ 98 ∷ [], 99 ∷ 100 ∷ [], record { ending = feed; spells = refl; plain = (refl, (refl, tt)); stands = tt }, refl);
  cut = refl;
  plain = (refl, tt);
  counts = refl;
  here = refl;
}

inserted : Stands Utf16 second 0 1 1
unfolding lib.Utf8.encode
inserted = record {
  rest = second;
  before = 97 ∷ [];
  behind = 88 ∷ 100 ∷ [];
  lines = refl;
  cut = refl;
  plain = (refl, tt);
  counts = refl;
  here = refl;
}

behind_inserted : Stands Utf16 second 0 2 2
unfolding lib.Utf8.encode
behind_inserted = record {
  rest = second;
  before = 97 ∷ 88 ∷ [];
  behind = 100 ∷ [];
  lines = refl;
  cut = refl;
  plain = (refl, (refl, tt));
  counts = refl;
  here = refl;
}

pub rows : Rows
unfolding lib.Utf8.encode before_pair behind_all before_two before_four behind_a behind_b begins
rows = record {
  before_pair = means_itself Utf16 mixed 0 2 3 before_pair;
  within_pair = means_within Utf16 mixed 0 2 3 128512 3 (98 ∷ []) before_pair refl (omega arith) (omega arith);
  behind_pair = means_itself Utf16 mixed 0 4 7 behind_pair;
  behind_line = means_end Utf16 mixed 0 5 8 9 behind_all tt (omega arith);
  no_line = means_no_line Utf16 mixed 0 1 0 mixed refl (refl, (refl, (refl, (refl, (refl, (refl, (refl, (refl, tt)))))))) (omega arith);
  within_two = means_within Utf8 mixed 0 1 1 228 2 (240 ∷ 159 ∷ 152 ∷ 128 ∷ 98 ∷ []) before_two refl (omega arith) (omega arith);
  before_four = means_itself Utf8 mixed 0 3 3 before_four;
  within_four = means_within Utf8 mixed 0 3 3 128512 4 (98 ∷ []) before_four refl (omega arith) (omega arith);
  before_both = means_end Utf16 ended 0 1 1 5 behind_a refl (omega arith);
  second_line = means_itself Utf16 ended 1 0 3 (begins Utf16 ended 1 3 (98 ∷ 13 ∷ 99 ∷ 10 ∷ 100 ∷ []) behind_one refl);
  before_carriage = means_end Utf16 ended 1 1 4 2 behind_b refl (omega arith);
  third_line = means_itself Utf16 ended 2 0 5 (begins Utf16 ended 2 5 (99 ∷ 10 ∷ 100 ∷ []) behind_two refl);
  fourth_line = means_itself Utf16 ended 3 0 7 (begins Utf16 ended 3 7 (100 ∷ []) behind_three refl);
  empty = means_itself Utf8 [] 0 0 0 (begins Utf8 [] 0 0 [] refl refl);
  empty_behind = means_end Utf8 [] 0 0 0 7 (begins Utf8 [] 0 0 [] refl refl) tt (omega arith);
  empty_below = means_no_line Utf8 [] 0 3 0 [] refl tt (omega arith);
  over_lines = record {
    start = 1;
    «end» = 4;
    begins = means_itself Utf16 first 0 1 1 start;
    ends = means_itself Utf16 first 1 1 4 stop;
    now = refl;
  };
  then_gone = record {
    start = 1;
    «end» = 2;
    begins = means_itself Utf16 second 0 1 1 inserted;
    ends = means_itself Utf16 second 0 2 2 behind_inserted;
    now = refl;
  };
  end_first = record {
    start = 4;
    «end» = 1;
    begins = means_itself Utf16 first 1 1 4 stop;
    ends = means_itself Utf16 first 0 1 1 start;
    now = refl;
  };
}
