-- The script of two workers who race for one block: each step fits.
use Rattle.std.proofs.Common.{ℕ, ◌+◌, Bool, true, false, List, [], ◌∷◌, ◌++◌, refl, arith}
use Rattle.hex_cells.specs.Sets.{has as has_cell}
use Rattle.play_out.specs.Fills.{empties_of}
use Rattle.tree_words.specs.Complete.{allowed_cells, set_of}
use Rattle.tree_words.specs.declared.steps.Op.TheVariants.{Draw, Look, Claim, Write, Publish, Add, Note}
use Rattle.arena_rule.specs.Views.{opening_view}
use Rattle.arena_rule.specs.Fits.{block_words}
use Rattle.arena_rule.specs.Afters.{drew, known_after, loads_after, looked, claimed_at, wrote, published, added_at, noted, with_word, kept_part, given_part}
use Rattle.search_tests.proofs.ScriptLaws.{fit-append, draw-fits, write-fits, next-add, note-fits}
use Rattle.search_tests.proofs.TwoByTwo.{root_child, adds, note-value, first-add, may-get, claim-fits}
use Rattle.search_tests.specs.Scripts.{two_by_two, FillsForWhite, ScriptLine, TwoViews, AllFit, RaceEnds, after_script}

-- the words of the block of a1
abbrev written : List ℕ
written = 14 ∷ 14 ∷ 0 ∷ 3 ∷ 1 ∷ 0 ∷ 0 ∷ 0 ∷ 258 ∷ 0 ∷ 0 ∷ 0 ∷ 515 ∷ 0 ∷ 0 ∷ 0 ∷ []

-- the seats after the split
abbrev pub two_seats : TwoViews
two_seats = record { first = kept_part (opening_view two_by_two) 1; second = given_part (opening_view two_by_two) 1 }

-- the looks of both seats, and the first seat's draw
abbrev looks : List ScriptLine
looks =
    (true, Look 7, 10)
    ∷ (true, Look 10, 6)
    ∷ (true, Look 11, 15)
    ∷ (true, Look 12, 0)
    ∷ (true, Look 13, 4)
    ∷ (true, Look 14, 0)
    ∷ (true, Look 18, 257)
    ∷ (true, Look 22, 514)
    ∷ (true, Look 26, 771)
    ∷ (false, Draw, 0)
    ∷ (false, Look 8, 0)
    ∷ (false, Look 7, 10)
    ∷ (false, Look 10, 6)
    ∷ (false, Look 11, 15)
    ∷ (false, Look 12, 0)
    ∷ (false, Look 13, 4)
    ∷ (false, Look 14, 0)
    ∷ (false, Look 16, 0)
    ∷ (false, Look 17, 0)
    ∷ (false, Look 18, 257)
    ∷ (false, Look 20, 0)
    ∷ (false, Look 21, 0)
    ∷ (false, Look 22, 514)
    ∷ (false, Look 24, 0)
    ∷ (false, Look 25, 0)
    ∷ (false, Look 26, 771)
    ∷ (false, Look 28, 0)
    ∷ (false, Look 29, 0)
    ∷ (false, Look 15, 0)
    ∷ []

-- the first seat's walk to a1, both draws, and their claims
abbrev walk : List ScriptLine
walk =
    (false, Add 16 false, 0)
    ∷ (false, Add 17 false, 0)
    ∷ (false, Add 29 false, 0)
    ∷ (false, Add 8 true, 0)
    ∷ (false, Note 0 29, 0)
    ∷ (false, Draw, 1)
    ∷ (true, Draw, 2)
    ∷ (false, Look 16, 4294967296)
    ∷ (true, Look 16, 4294967296)
    ∷ (false, Claim 16, 30)
    ∷ (true, Claim 16, 46)
    ∷ []

-- a seat writes these words from the place on
abbrev writes : Bool → ℕ → List ℕ → List ScriptLine
writes second at [] = []
writes second at (word ∷ words) = (second, Write at word, 0) ∷ writes second (at + 1) words

-- each seat writes its block
abbrev first_writes : List ScriptLine
first_writes = writes false 30 written

abbrev second_writes : List ScriptLine
second_writes = writes true 46 written

-- both publish, and look
abbrev links : List ScriptLine
links =
    (false, Publish 15 30, 0)
    ∷ (true, Publish 15 46, 30)
    ∷ (false, Look 0, 62)
    ∷ (false, Look 46, 14)
    ∷ (true, Look 15, 30)
    ∷ []

-- the script
abbrev pub script : List ScriptLine
script = looks ++ (walk ++ (first_writes ++ (second_writes ++ links)))

looks-fit : AllFit (two_seats) looks
unfolding allowed_cells has_cell empties_of set_of block_words drew known_after loads_after looked claimed_at wrote published added_at noted with_word
    kept_part
looks-fit = (
  omega arith,
  (λ e. cc),
  (
    omega arith,
    (λ e. cc),
    (
      omega arith,
      (λ e. cc),
      (
        omega arith,
        (λ e. cc),
        (
          omega arith,
          (λ e. cc),
          (
            omega arith,
            (λ e. cc),
            (
              omega arith,
              (λ e. cc),
              (
                omega arith,
                (λ e. cc),
                (
                  omega arith,
                  (λ e. cc),
                  (
                    draw-fits _ refl refl refl refl,
                    (λ e. cc),
                    (
                      omega arith,
                      (λ e. cc),
                      (
                        omega arith,
                        (λ e. cc),
                        (
                          omega arith,
                          (λ e. cc),
                          (
                            omega arith,
                            (λ e. cc),
                            (
                              omega arith,
                              (λ e. cc),
                              (
                                omega arith,
                                (λ e. cc),
                                (
                                  omega arith,
                                  (λ e. cc),
                                  (
                                    omega arith,
                                    (λ e. cc),
                                    (
                                      omega arith,
                                      (λ e. cc),
                                      (
                                        omega arith,
                                        (λ e. cc),
                                        (
                                          omega arith,
                                          (λ e. cc),
                                          (
                                            omega arith,
                                            (λ e. cc),
                                            (
                                              omega arith,
                                              (λ e. cc),
                                              (
                                                omega arith,
                                                (λ e. cc),
                                                (
                                                  omega arith,
                                                  (λ e. cc),
                                                  (
                                                    omega arith,
                                                    (λ e. cc),
                                                    (omega arith, (λ e. cc), (omega arith, (λ e. cc), (omega arith, (λ e. cc), tt))),
                                                  ),
                                                ),
                                              ),
                                            ),
                                          ),
                                        ),
                                      ),
                                    ),
                                  ),
                                ),
                              ),
                            ),
                          ),
                        ),
                      ),
                    ),
                  ),
                ),
              ),
            ),
          ),
        ),
      ),
    ),
  ),
)

walk-fit : FillsForWhite → AllFit (after_script (two_seats) looks) walk
unfolding allowed_cells has_cell empties_of set_of block_words drew known_after loads_after looked claimed_at wrote published added_at noted with_word
    kept_part
walk-fit ends = (
  first-add ends,
  (λ e. cc),
  (
    next-add _ two_by_two (root_child ∷ []) 0 14 1 _ _ refl refl refl refl refl
        (adds ends) refl,
    (λ e. cc),
    (
      next-add _ two_by_two (root_child ∷ []) 0 14 2 _ _ refl refl refl refl refl
          (adds ends) refl,
      (λ e. cc),
      (
        next-add _ two_by_two (root_child ∷ []) 0 14 3 _ _ refl refl refl refl refl
            (adds ends) refl,
        (λ e. cc),
        (
          note-fits _ two_by_two (root_child ∷ []) 0 14 29 _ refl refl refl refl (adds ends)
              (note-value ends),
          (λ e. cc),
          (
            draw-fits _ refl refl refl refl,
            (λ e. cc),
            (
              draw-fits _ refl refl refl refl,
              (λ e. cc),
              (
                omega arith,
                (λ e. cc),
                (
                  omega arith,
                  (λ e. cc),
                  (
                    claim-fits _ 1 refl refl refl refl refl refl refl,
                    (λ e. cc),
                    (claim-fits _ 2 refl refl refl refl refl refl refl, (λ e. cc), tt),
                  ),
                ),
              ),
            ),
          ),
        ),
      ),
    ),
  ),
)

first-writes-fit : AllFit (after_script (after_script (two_seats) looks) walk) first_writes
unfolding allowed_cells has_cell empties_of set_of block_words drew known_after loads_after looked claimed_at wrote published added_at noted with_word
    kept_part
first-writes-fit = (
  write-fits _ _ _ refl (omega arith) refl,
  (λ e. cc),
  (
    write-fits _ _ _ refl (omega arith) refl,
    (λ e. cc),
    (
      write-fits _ _ _ refl (omega arith) refl,
      (λ e. cc),
      (
        write-fits _ _ _ refl (omega arith) refl,
        (λ e. cc),
        (
          write-fits _ _ _ refl (omega arith) refl,
          (λ e. cc),
          (
            write-fits _ _ _ refl (omega arith) refl,
            (λ e. cc),
            (
              write-fits _ _ _ refl (omega arith) refl,
              (λ e. cc),
              (
                write-fits _ _ _ refl (omega arith) refl,
                (λ e. cc),
                (
                  write-fits _ _ _ refl (omega arith) refl,
                  (λ e. cc),
                  (
                    write-fits _ _ _ refl (omega arith) refl,
                    (λ e. cc),
                    (
                      write-fits _ _ _ refl (omega arith) refl,
                      (λ e. cc),
                      (
                        write-fits _ _ _ refl (omega arith) refl,
                        (λ e. cc),
                        (
                          write-fits _ _ _ refl (omega arith) refl,
                          (λ e. cc),
                          (
                            write-fits _ _ _ refl (omega arith) refl,
                            (λ e. cc),
                            (write-fits _ _ _ refl (omega arith) refl, (λ e. cc), (write-fits _ _ _ refl (omega arith) refl, (λ e. cc), tt)),
                          ),
                        ),
                      ),
                    ),
                  ),
                ),
              ),
            ),
          ),
        ),
      ),
    ),
  ),
)

second-writes-fit : AllFit (after_script (after_script (after_script (two_seats) looks) walk) first_writes) second_writes
unfolding allowed_cells has_cell empties_of set_of block_words drew known_after loads_after looked claimed_at wrote published added_at noted with_word
    kept_part
second-writes-fit = (
  write-fits _ _ _ refl (omega arith) refl,
  (λ e. cc),
  (
    write-fits _ _ _ refl (omega arith) refl,
    (λ e. cc),
    (
      write-fits _ _ _ refl (omega arith) refl,
      (λ e. cc),
      (
        write-fits _ _ _ refl (omega arith) refl,
        (λ e. cc),
        (
          write-fits _ _ _ refl (omega arith) refl,
          (λ e. cc),
          (
            write-fits _ _ _ refl (omega arith) refl,
            (λ e. cc),
            (
              write-fits _ _ _ refl (omega arith) refl,
              (λ e. cc),
              (
                write-fits _ _ _ refl (omega arith) refl,
                (λ e. cc),
                (
                  write-fits _ _ _ refl (omega arith) refl,
                  (λ e. cc),
                  (
                    write-fits _ _ _ refl (omega arith) refl,
                    (λ e. cc),
                    (
                      write-fits _ _ _ refl (omega arith) refl,
                      (λ e. cc),
                      (
                        write-fits _ _ _ refl (omega arith) refl,
                        (λ e. cc),
                        (
                          write-fits _ _ _ refl (omega arith) refl,
                          (λ e. cc),
                          (
                            write-fits _ _ _ refl (omega arith) refl,
                            (λ e. cc),
                            (write-fits _ _ _ refl (omega arith) refl, (λ e. cc), (write-fits _ _ _ refl (omega arith) refl, (λ e. cc), tt)),
                          ),
                        ),
                      ),
                    ),
                  ),
                ),
              ),
            ),
          ),
        ),
      ),
    ),
  ),
)

links-fit : AllFit (after_script (after_script (after_script (after_script (two_seats) looks) walk) first_writes) second_writes) links
unfolding allowed_cells has_cell empties_of set_of block_words drew known_after loads_after looked claimed_at wrote published added_at noted with_word
    kept_part
links-fit = (
  record {
    block = record { start = 30; size = 16; written = written };
    held = refl;
    start = refl;
    node = 14;
    link = refl;
    above = omega arith;
    may = may-get _ refl refl refl;
    written = refl;
  },
  (λ e. cc),
  (
    record {
      block = record { start = 46; size = 16; written = written };
      held = refl;
      start = refl;
      node = 14;
      link
          = refl;
      above = omega arith;
      may = may-get _ refl refl refl;
      written = refl;
    },
    (λ e. cc),
    (omega arith, (λ e. cc), (omega arith, (λ e. cc), (omega arith, (λ e. cc), tt))),
  ),
)

-- each step of the script fits
pub all-fit : FillsForWhite → AllFit two_seats script
all-fit ends =
    let looked_on : TwoViews = after_script two_seats looks in
    let walked : TwoViews = after_script looked_on walk in
    let written_once : TwoViews = after_script walked first_writes in
    fit-append two_seats looks (walk ++ (first_writes ++ (second_writes ++ links))) looks-fit
    (fit-append looked_on walk (first_writes ++ (second_writes ++ links)) (walk-fit ends)
    (fit-append walked first_writes (second_writes ++ links) first-writes-fit (fit-append written_once second_writes links second-writes-fit links-fit)))

pub ended : RaceEnds (after_script two_seats script).first (after_script two_seats script).second
unfolding allowed_cells has_cell empties_of set_of drew known_after loads_after looked claimed_at wrote published added_at noted with_word kept_part
ended = record { claimed = (refl, refl); held = (refl, refl); link = refl }
