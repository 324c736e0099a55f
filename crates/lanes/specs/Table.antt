-- Small programs, each with what is told of it and an order of turns that shows it: one table, held as a whole by one theorem.
use Rattle.std.specs.Prelude.{◌≡◌, ℕ, true, false, List, [], ◌∷◌}
use Rattle.lanes.specs.Syntax.{Program, end, put, read_shared, write_shared, write_all, barrier, when, while, fixed, var, lane, group, lanes, plus, minus, times, over, rest_of, less, same}
use Rattle.lanes.specs.Grid.{Grid, Turn, of, release, turns, all_ended, begin}
use Rattle.lanes.specs.Told.{Told, cells, races, missing, stuck, too_long, Shows}

-- A row of the table: a program, how many groups of how many lanes, the field before, the steps granted, an order, and what is told.
pub record Row : Type 0 where
  pub program : Program
  pub groups : ℕ
  pub lanes : ℕ
  pub field : List ℕ
  pub granted : ℕ
  pub order : List Turn
  pub told : Told

-- field (lane + (group * lanes)) = (lane + 10), with 2 groups of 2 lanes: the field is 10 11 10 11.
abbrev pub own_cells : Row
own_cells =
    record {
      program = record { body = write_all (plus lane (times group lanes)) (plus lane (fixed 10)) end; owns = 0; shared = 0 };
      groups = 2;
      lanes = 2;
      field = 0 ∷ 0 ∷ 0 ∷ 0 ∷ [];
      granted = 4;
      order = of 0 0 ∷ of 0 1 ∷ of 1 0 ∷ of 1 1 ∷ [];
      told = cells (10 ∷ 11 ∷ 10 ∷ 11 ∷ []);
    }

-- own a; cells 4; cell lane = lane; a = cell ((lane + 1) % lanes); field lane = a, with 2 lanes: each lane reads the cell that the other
-- writes, and no barrier parts them. Lane 0 reads cell 1 of the group, which lane 1 has written.
abbrev pub no_barrier : Row
no_barrier =
    record {
      program = record {
        body = write_shared lane lane (read_shared 0 (rest_of (plus lane (fixed 1)) lanes) (write_all lane (var 0) end));
        owns = 1;
        shared = 4;
      };
      groups = 1;
      lanes = 2;
      field = 0 ∷ 0 ∷ [];
      granted = 6;
      order = of 0 0 ∷ of 0 1 ∷ of 0 0 ∷ [];
      told = races
          (record { by_group = 0; by_lane = 0; phase = 0; touch = record { where_is = 1; cell = 1; wrote = false } })
          (record { by_group = 0; by_lane = 1; phase = 0; touch = record { where_is = 1; cell = 1; wrote = true } });
    }

-- field 5 = 1, with one lane and a field of one cell: lane 0 of group 0 touches a cell that isn't there.
abbrev pub not_there : Row
not_there =
    record {
      program = record { body = write_all (fixed 5) (fixed 1) end; owns = 0; shared = 0 };
      groups = 1;
      lanes = 1;
      field = 0 ∷ [];
      granted = 1;
      order = of 0 0 ∷ [];
      told = missing 0 0;
    }

-- field 1 = 1, with one lane and a field of one cell: the cell just behind the last one isn't there either.
abbrev pub just_behind : Row
just_behind =
    record {
      program = record { body = write_all (fixed 1) (fixed 1) end; owns = 0; shared = 0 };
      groups = 1;
      lanes = 1;
      field = 0 ∷ [];
      granted = 1;
      order = of 0 0 ∷ [];
      told = missing 0 0;
    }

-- As without a barrier, with one between the write and the read: the barrier parts them, and each lane has the other's number.
abbrev pub with_barrier : Row
with_barrier =
    record {
      program = record {
        body = write_shared lane lane (barrier (read_shared 0 (rest_of (plus lane (fixed 1)) lanes) (write_all lane (var 0) end)));
        owns = 1;
        shared = 4;
      };
      groups = 1;
      lanes = 2;
      field = 0 ∷ 0 ∷ [];
      granted = 6;
      order = of 0 0 ∷ of 0 1 ∷ release 0 ∷ of 0 0 ∷ of 0 1 ∷ of 0 0 ∷ of 0 1 ∷ [];
      told = cells (1 ∷ 0 ∷ []);
    }

-- if lane; barrier; end, with 2 lanes: lane 1 waits for lane 0, which has ended.
abbrev pub waits_alone : Row
waits_alone =
    record {
      program = record { body = when lane (barrier end) end end; owns = 0; shared = 0 };
      groups = 1;
      lanes = 2;
      field = [];
      granted = 2;
      order = of 0 0 ∷ of 0 1 ∷ [];
      told = stuck 0;
    }

-- own a; while 1; a = (a + 1); end, with one lane and 3 steps granted: there is a fourth.
abbrev pub without_end : Row
without_end =
    record {
      program = record { body = while (fixed 1) (put 0 (plus (var 0) (fixed 1)) end) end; owns = 1; shared = 0 };
      groups = 1;
      lanes = 1;
      field = [];
      granted = 3;
      order = of 0 0 ∷ of 0 0 ∷ of 0 0 ∷ of 0 0 ∷ [];
      told = too_long;
    }

-- cells 1; barrier; cell 0 = lane, with 2 lanes: both write cell 0 of the group behind the barrier, so in phase 1.
abbrev pub behind_barrier : Row
behind_barrier =
    record {
      program = record { body = barrier (write_shared (fixed 0) lane end); owns = 0; shared = 1 };
      groups = 1;
      lanes = 2;
      field = [];
      granted = 2;
      order = release 0 ∷ of 0 1 ∷ of 0 0 ∷ [];
      told = races
          (record { by_group = 0; by_lane = 0; phase = 1; touch = record { where_is = 1; cell = 0; wrote = true } })
          (record { by_group = 0; by_lane = 1; phase = 1; touch = record { where_is = 1; cell = 0; wrote = true } });
    }

-- own a; cells 1; field 0 = (4294967295 + 1); field 1 = (0 - 1); field 2 = (65536 * 65537); field 3 = (7 / 2); field 4 = (7 / 0);
-- field 5 = (7 % 0); field 6 = (2 < 2); field 7 = (2 = 2); field 8 = a; a = cell 0; field 9 = a; with one lane: own numbers and cells begin as 0.
abbrev pub numbers : Row
numbers =
    record {
      program = record {
        body = write_all (fixed 0) (plus (fixed 4294967295) (fixed 1))
            (write_all (fixed 1) (minus (fixed 0) (fixed 1))
            (write_all (fixed 2) (times (fixed 65536) (fixed 65537))
            (write_all (fixed 3) (over (fixed 7) (fixed 2))
            (write_all (fixed 4) (over (fixed 7) (fixed 0))
            (write_all (fixed 5) (rest_of (fixed 7) (fixed 0))
            (write_all (fixed 6) (less (fixed 2) (fixed 2))
            (write_all (fixed 7) (same (fixed 2) (fixed 2))
            (write_all (fixed 8) (var 0)
            (read_shared 0 (fixed 0)
            (write_all (fixed 9) (var 0) end))))))))));
        owns = 1;
        shared = 1;
      };
      groups = 1;
      lanes = 1;
      field = 9 ∷ 9 ∷ 9 ∷ 9 ∷ 9 ∷ 9 ∷ 9 ∷ 9 ∷ 9 ∷ 9 ∷ [];
      granted = 11;
      order = of 0 0 ∷ of 0 0 ∷ of 0 0 ∷ of 0 0 ∷ of 0 0 ∷ of 0 0 ∷ of 0 0 ∷ of 0 0 ∷ of 0 0 ∷ of 0 0 ∷ of 0 0 ∷ [];
      told = cells (0 ∷ 4294967295 ∷ 65536 ∷ 3 ∷ 0 ∷ 0 ∷ 0 ∷ 1 ∷ 0 ∷ 0 ∷ []);
    }

-- own a; if lane; a = 5; else; a = 6; end; field lane = a; while (a < 8); a = (a + 1); end; field (lane + 2) = a, with 2 lanes:
-- lane 0 does what stands behind else, and the loop ends for both at 8.
abbrev pub branches : Row
branches =
    record {
      program = record {
        body = when lane (put 0 (fixed 5) end) (put 0 (fixed 6) end)
            (write_all lane (var 0)
            (while (less (var 0) (fixed 8)) (put 0 (plus (var 0) (fixed 1)) end)
            (write_all (plus lane (fixed 2)) (var 0) end)));
        owns = 1;
        shared = 0;
      };
      groups = 1;
      lanes = 2;
      field = 0 ∷ 0 ∷ 0 ∷ 0 ∷ [];
      granted = 20;
      order = of 0 0 ∷ of 0 0 ∷ of 0 0 ∷ of 0 0 ∷ of 0 0 ∷ of 0 0 ∷ of 0 0 ∷ of 0 0 ∷ of 0 0
          ∷ of 0 1 ∷ of 0 1 ∷ of 0 1 ∷ of 0 1 ∷ of 0 1 ∷ of 0 1 ∷ of 0 1 ∷ of 0 1 ∷ of 0 1 ∷ of 0 1 ∷ of 0 1 ∷ [];
      told = cells (6 ∷ 5 ∷ 8 ∷ 8 ∷ []);
    }

abbrev pub table : List Row
table = own_cells ∷ no_barrier ∷ not_there ∷ just_behind ∷ with_barrier ∷ waits_alone ∷ without_end ∷ behind_barrier ∷ numbers ∷ branches ∷ []

abbrev pub start_of : Row → Grid
start_of r = begin r.program r.groups r.lanes r.field

-- What a row of the table says: its order shows what is told; and if that is a field, every order that comes to the end leaves it.
pub record RowStands (r : Row) : Type 0 where
  pub shows : Shows r.granted r.lanes (start_of r) r.order r.told
  pub every_order : (cs : List ℕ) → r.told ≡ cells cs → (us : List Turn) → all_ended (turns r.lanes (start_of r) us).groups_of ≡ true →
      (turns r.lanes (start_of r) us).memory.all ≡ cs

unfoldable pub AllStand : List Row → Type 0
AllStand [] = Unit {0}
AllStand (r ∷ rs) = RowStands r × AllStand rs

-- THE TABLE. Every row of it stands.
unfoldable pub TableStands : Type 0
TableStands = AllStand table
